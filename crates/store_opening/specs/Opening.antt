-- What opening a store gives.
use Rattle.std.specs.Prelude.{◌≡◌, ℕ, ◌<◌, ◌≤◌, ⊤, Bool, List, [], Option, None, Some, option_map}
use Rattle.std.specs.List.{All}
use Rattle.disk.specs.Stops.{IsTold, Only}
use Rattle.flattener.specs.Fits.{SegmentFits}
use Rattle.index_core.specs.Kept.{AreBlocks, laid, last_number, made_by}
use Rattle.mapping.specs.Mapping.{Mapping}
use Rattle.segment.specs.Live.{EntryState}
use Rattle.commit_store.specs.Saying.{StoreCommit, Found, entries_of, mapping_said}
use Rattle.commit_store.specs.Known.{StoreState, KeepsStore}
use Rattle.commit_store.specs.Opened.{store_found}
use Rattle.commit_store.specs.Preparing.{IsCommittable}
use Rattle.commit_store.specs.declared.known.KnownSegment.{KnownSegment}
use Rattle.store_opening.specs.Looking.{Looked}
use Rattle.store_opening.specs.declared.opened.Opened.{Opened}
use Rattle.store_opening.specs.declared.opened.Inspected.{Inspected}
use Rattle.store_opening.specs.declared.refusal.OpenRefusal.{OpenRefusal}
use Rattle.store_opening.specs.declared.refusal.OpenRefusal.TheVariants.{DiskFault, NotAStore, Damaged, NoMemory}

-- ---- what a commit says, or what there is where there is none

abbrev pub mapping_found : Option StoreCommit → Option Mapping
mapping_found found = option_map (λ (c : StoreCommit). mapping_said c.says) found

abbrev pub next_found : Option StoreCommit → ℕ
next_found None = 0
next_found (Some c) = c.says.next

abbrev pub view_found : Option StoreCommit → List EntryState
view_found None = []
view_found (Some c) = entries_of c

-- What was opened is what this commit says, or what there is where there is none: its mapping, its next number, its segments as a
-- view with ids from 0 on, and a store whose last commit it is.
pub record IsOpened (limit : ℕ) (found : Option StoreCommit) (it : Opened) : Type 0 where
  pub closed : Bool
  pub store : it.store ≡ store_found limit found closed
  pub mapping : it.mapping ≡ mapping_found found
  pub next : it.next ≡ next_found found
  pub view : it.view ≡ view_found found

-- the same of what was read without a store
pub record IsInspected (found : Option StoreCommit) (it : Inspected) : Type 0 where
  pub mapping : it.mapping ≡ mapping_found found
  pub next : it.next ≡ next_found found
  pub view : it.view ≡ view_found found

-- ---- whatever the disk tells

-- the segments are ones that the mapping can have made, and lay out trees whose numbers are below the next one
pub record AreWhole (m : Mapping) (next : ℕ) (view : List EntryState) : Type 0 where
  pub fits : All (λ (entry : EntryState). SegmentFits m entry.columns) view
  pub blocks : AreBlocks (laid view [] (made_by view)) next
  pub few : next ≤ last_number

-- without a mapping there is nothing else
abbrev pub IsWhole : Option Mapping → ℕ → List EntryState → Type 0
IsWhole None next view = (next ≡ 0) × (view ≡ [])
IsWhole (Some m) next view = AreWhole m next view

-- without a mapping there is nothing else; with one the view may be committed again
abbrev pub IsFittingUnder : Option Mapping → StoreState → ℕ → List EntryState → Type 0
IsFittingUnder None store next view = (store.known ≡ []) × ((next ≡ 0) × (view ≡ []))
IsFittingUnder (Some m) store next view = IsCommittable store m next view

-- and the ids of what is known are those of entries of the view
pub record IsFitting (limit : ℕ) (it : Opened) : Type 0 where
  pub limit_is : it.store.limit ≡ limit
  pub under : IsFittingUnder it.mapping it.store it.next it.view
  pub below : All (λ (known : KnownSegment). known.entry.id < made_by it.view) it.store.known

-- ---- what the file holds

-- What was opened is what the file held. Where the disk had but this one image, all images then hold the same, and the store
-- keeps it.
pub record Opens (limit : ℕ) (file : List ℕ) (it : Opened) (old new : Option (List ℕ)) (before after : List ℕ → Type 0) : Type 0 where
  pub found : Option StoreCommit
  pub there : Found limit file found
  pub is : IsOpened limit found it
  pub keeps : IsTold new → Only old before → KeepsStore it.store found after
  pub holds : IsTold new → Only old before → (image : List ℕ) → after image → Found limit image found

pub record Inspects (limit : ℕ) (file : List ℕ) (it : Inspected) : Type 0 where
  pub found : Option StoreCommit
  pub there : Found limit file found
  pub is : IsInspected found it

-- a call of the disk failed while an empty file was prepared, or calls only looked
abbrev pub IsLeftBy : (Type 0) → OpenRefusal → Type 0
IsLeftBy looked DiskFault = ⊤
IsLeftBy looked NotAStore = looked
IsLeftBy looked Damaged = looked
IsLeftBy looked NoMemory = looked

-- These serve proofs alone: what was opened is what this commit says, or what there is where there is none, and so much is known of
-- the idle gate.
pub record IsOpenedAs (limit : ℕ) (found : Option StoreCommit) (closed : Bool) (it : Opened) : Type 0 where
  pub store : it.store ≡ store_found limit found closed
  pub mapping : it.mapping ≡ mapping_found found
  pub next : it.next ≡ next_found found
  pub view : it.view ≡ view_found found
