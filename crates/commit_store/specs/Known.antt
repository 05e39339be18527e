-- What a store knows of its last commit, and that all images of its disk keep that commit.
use Rattle.std.specs.Prelude.{◌≡◌, ℕ, ◌≤◌, ◌^◌, ◌⊎◌, Bool, true, false, List, [], ◌∷◌, length, map, Option, None, Some}
use Rattle.std.specs.List.{AllByRecursion, AllZip}
use Rattle.extent_pool.specs.declared.extent.Extent.{Extent}
use Rattle.flattener.specs.Fits.{SegmentFits}
use Rattle.mapping.specs.Mapping.{Mapping}
use Rattle.segment.specs.Live.{EntryState}
use Rattle.segment_parts.specs.Text.{segment_text}
use Rattle.segment_parts.specs.Agree.{AreColumns}
use Rattle.segment_view.specs.Views.{HaveOwnIds}
use Rattle.store_text.specs.declared.header.Side.{Side}
use Rattle.commit_images.specs.Keeping as keeping
use Rattle.commit_store.specs.declared.known.KnownSegment.{KnownSegment}
use Rattle.commit_store.specs.Saying.{StoredSegment, StoreCommit, IsGood, AreExtents, extent_of, extents_of, last_generation}

-- What a store knows.
pub record StoreState : Type 0 where
  -- the greatest length of its file, in bytes
  pub limit : ℕ
  -- the slot of the last commit, if there is one
  pub side : Option Side
  -- the segments of the last commit under the ids that they have in the view, with live bits that may be those of an earlier
  -- commit; none of a commit of the older form, whose segments are all written anew
  pub known : List KnownSegment
  -- the extents that the last commit names, that of its record first
  pub named : List Extent
  -- the greatest generation that was tried or read in an open slot
  pub tried : ℕ
  -- whether the gate of the idle slot is known to be closed on the disk
  pub closed : Bool

-- the greatest limit of a store
abbrev pub greatest_limit : ℕ
greatest_limit = 2 ^ 38

abbrev pub entry_of : KnownSegment → EntryState
entry_of known = known.entry

abbrev pub known_extents : List KnownSegment → List Extent
known_extents known = map (λ (segment : KnownSegment). segment.extent) known

-- a known segment: its extent is as long as its text, and some mapping can have made it
pub record IsKnownSegment (known : KnownSegment) : Type 0 where
  pub agree : AreColumns known.entry.columns
  pub long : known.extent.len ≡ length (segment_text known.entry.columns)
  pub mapping : Mapping
  pub fits : SegmentFits mapping known.entry.columns

-- without a commit nothing is named; else the record's extent is, and behind it those of the segments
abbrev pub AreNamed : Option Side → List KnownSegment → List Extent → Type 0
AreNamed None known named = (known ≡ []) × (named ≡ [])
AreNamed (Some side) known [] = ⊥
AreNamed (Some side) known (extent ∷ extents) = (known ≡ []) ⊎ (known_extents known ≡ extents)

-- What is so of a store at all times.
pub record IsStore (store : StoreState) : Type 0 where
  pub limit : store.limit ≤ greatest_limit
  pub places : AreExtents store.limit store.named
  pub names : AreNamed store.side store.known store.named
  pub segments : AllByRecursion IsKnownSegment store.known
  pub ids : HaveOwnIds (map entry_of store.known)
  pub tried : store.tried ≤ last_generation

-- ---- its last commit

-- what is known of a segment is what the commit says of it
pub record IsOfSegment (known : KnownSegment) (segment : StoredSegment) : Type 0 where
  pub extent : known.extent ≡ extent_of segment.piece
  pub columns : known.entry.columns ≡ segment.columns

-- of a commit of the older form no segment is known
abbrev pub AreOfSegments : Bool → List KnownSegment → List StoredSegment → Type 0
AreOfSegments true known segments = known ≡ []
AreOfSegments false known segments = AllZip IsOfSegment known segments

pub record IsOfCommit (store : StoreState) (c : StoreCommit) : Type 0 where
  pub side : store.side ≡ Some c.side
  pub named : store.named ≡ extents_of c
  pub known : AreOfSegments c.says.old store.known c.says.segments
  pub tried : c.generation ≤ store.tried

-- the last commit of the store is this one, or there is none
abbrev pub IsLast : StoreState → Option StoreCommit → Type 0
IsLast store None = store.side ≡ None
IsLast store (Some c) = IsOfCommit store c

-- The store has this commit as its last one, or none, and all images of its disk keep that.
pub record KeepsStore (store : StoreState) (found : Option StoreCommit) (images : List ℕ → Type 0) : Type 0 where
  pub last : IsLast store found
  pub keeps : keeping.KeepsCommit (IsGood store.limit) found store.closed images
