-- What a compaction makes of a commit that is prepared: a segment moves to the first hole that has room, where that stands before
-- its own place.
use Rattle.std.specs.Prelude.{◌≡◌, ℕ, Bool, true, false, List, ◌∷◌, slice_get, slice_set, Some, None}
use Rattle.std.specs.List.Sorted.{IsPermutation}
use Rattle.extent_pool.specs.Placing.{NamedExtent, better}
use Rattle.extent_pool.specs.declared.extent.Extent.{Extent}
use Rattle.mapping.specs.Mapping.{Mapping}
use Rattle.segment.specs.Live.{EntryState}
use Rattle.commit_store.specs.Known.{StoreState}
use Rattle.commit_store.specs.Preparing.{PlannedSegment, PreparedState, IsCommitOf, SaysView}
use Rattle.commit_store.specs.Saying.{StoreCommit}

-- a segment of a commit that is prepared, with its extent, under its id
abbrev pub named_planned : PlannedSegment → NamedExtent
named_planned segment = record { id = segment.entry.id; extent = segment.extent }

-- a segment with another extent
abbrev pub moved_into : Extent → PlannedSegment → PlannedSegment
moved_into extent segment = record { entry = segment.entry; live = segment.live; before = segment.before; extent = extent }

-- a segment has a better extent and was moved into it; it is taken besides all that was, the one that the segment had as well
pub record IsMovedTo (segment : PlannedSegment) (extent : Extent) (place : ℕ) (old new : PreparedState) : Type 0 where
  pub better_is : better old.limit old.taken (named_planned segment) ≡ Some extent
  pub segments : new.segments ≡ slice_set old.segments place (moved_into extent segment)
  pub taken : IsPermutation (extent ∷ old.taken) new.taken
  pub limit : new.limit ≡ old.limit
  pub bodies : new.bodies ≡ old.bodies
  pub dynamic : new.dynamic ≡ old.dynamic
  pub next : new.next ≡ old.next
  pub record_extent : new.record_extent ≡ old.record_extent

-- the segment at a place has a better extent and is moved into it; or it has none, and nothing changes
abbrev pub IsOfferedTo : Bool → PlannedSegment → ℕ → PreparedState → PreparedState → Type 0
IsOfferedTo true segment place old new = (extent : Extent) × IsMovedTo segment extent place old new
IsOfferedTo false segment place old new = (better old.limit old.taken (named_planned segment) ≡ None) × (new ≡ old)

abbrev pub IsOffered : Bool → ℕ → PreparedState → PreparedState → Type 0
IsOffered moved place old new = (segment : PlannedSegment) → slice_get old.segments place ≡ Some segment → IsOfferedTo moved segment place old new

-- whatever each commit that the one is says of a view, each commit that the other is says as well
abbrev pub SaysAsMuch : StoreState → PreparedState → PreparedState → Type 0
SaysAsMuch store one other =
    (m : Mapping) (next : ℕ) (view : List EntryState) → ((c : StoreCommit) → IsCommitOf store one c → SaysView m next view c)
    → (c : StoreCommit) → IsCommitOf store other c → SaysView m next view c
