-- The states that a file may be opened in.
use Rattle.std.specs.Prelude.{◌≡◌, ℕ, true, List, [], ◌∷◌, map, Option, None, Some}
use Rattle.std.specs.List.{AllByRecursion}
use Rattle.commit_store.specs.Saying.{StoreCommit, Found, entries_of, mapping_said}
use Rattle.commit_store.specs.Opened.{store_found}
use Rattle.index_core.specs.Kept.{made_by}
use Rattle.layout.specs.As.{layout_as, marked_as}
use Rattle.layout.specs.Layout.{Marked, SegmentOf, Layout, live_items}
use Rattle.machine.specs.State.{State, empty_state, no_points}
use Rattle.mapping.specs.Mapping.{Mapping}
use Rattle.segment.specs.Live.{EntryState}
use Rattle.segment_builder.specs.Blocks.{blocks_in}
use Rattle.store_compact.specs.Compacting.{kept_of}
use Rattle.index_trees.specs.Faithful.{Indexed, block_in, tree_in}

-- an entry holds trees: its blocks are theirs, dead ones among them
pub record IsHeld (m : Mapping) (entry : EntryState) : Type 0 where
  pub trees : List (Marked (Indexed m))
  pub blocks : blocks_in entry ≡ map (marked_as (block_in m)) trees

abbrev pub AreHeld : Mapping → List EntryState → Type 0
AreHeld m entries = AllByRecursion (IsHeld m) entries

abbrev pub segments_held : (m : Mapping) (entries : List EntryState) → AreHeld m entries → List (SegmentOf (Indexed m))
segments_held m [] held = []
segments_held m (entry ∷ entries) held = record { id = entry.id; items = held.0.trees } ∷ segments_held m entries held.1

abbrev pub layout_held : (m : Mapping) (entries : List EntryState) → AreHeld m entries → Layout (Indexed m)
layout_held m entries held = record { segments = segments_held m entries held; buffer = []; merges = []; started = 0; made = made_by entries; factor = None }

-- the state that a store opens in: its trees, no point in time, and what it keeps
abbrev pub state_found : (limit : ℕ) (c : StoreCommit) → AreHeld (mapping_said c.says) (entries_of c) → State
state_found limit c held = record {
  content = record { mapping = Some (mapping_said c.says); live = map (tree_in (mapping_said c.says)) (live_items (layout_held (mapping_said c.says) (entries_of c) held)); next = c.says.next };
  points = no_points;
  layout = layout_as (tree_in (mapping_said c.says)) (layout_held (mapping_said c.says) (entries_of c) held);
  kept = kept_of (store_found limit (Some c) true);
}

abbrev pub OpensIn : ℕ → Option StoreCommit → State → Type 0
OpensIn limit None start = start ≡ empty_state
OpensIn limit (Some c) start = (held : AreHeld (mapping_said c.says) (entries_of c)) × (start ≡ state_found limit c held)

-- a file of these bytes, empty or one that holds a commit of trees, may be opened in this state; of a disk that doesn't tell its
-- bytes nothing is said
pub record StartsFrom (limit : ℕ) (bytes : List ℕ) (start : State) : Type 0 where
  pub found : Option StoreCommit
  pub holds : Found limit bytes found
  pub opens : OpensIn limit found start

abbrev pub Starts : ℕ → Option (List ℕ) → State → Type 0
Starts limit None start = ⊥
Starts limit (Some bytes) start = StartsFrom limit bytes start
