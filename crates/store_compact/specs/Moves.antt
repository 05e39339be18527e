-- Which segments of a commit that is prepared are offered a place nearer to the front: those that stand last, by descending place.
use Rattle.std.specs.Prelude.{◌≡◌, ℕ, ◌+◌, ◌<◌, ◌≤◌, cond, nat_lt, List, [], ◌∷◌, length, map, drop, slice_get, Option, None, Some}
use Rattle.std.specs.List.{AllByRecursion}
use Rattle.extent_pool.specs.Placing.{NamedExtent, last_before, last_ones, moved}
use Rattle.extent_pool.specs.declared.extent.Extent.{Extent}
use Rattle.machine.specs.Storing.{with_move}
use Rattle.segment.specs.Live.{EntryState}
use Rattle.commit_store.specs.Known.{StoreState}
use Rattle.commit_store.specs.Moving.{SaysAsMuch, named_planned}
use Rattle.commit_store.specs.Preparing.{PlannedSegment, PreparedState, IsPreparedBy}
use Rattle.store_compact.specs.declared.moves.Candidate.{Candidate}

-- ---- the extents that segments had

abbrev pub with_before : ℕ → Option Extent → List NamedExtent → List NamedExtent
with_before id None named = named
with_before id (Some extent) named = record { id = id; extent = extent } ∷ named

abbrev pub befores : List PlannedSegment → List NamedExtent
befores [] = []
befores (segment ∷ segments) = with_before segment.entry.id segment.before (befores segments)

-- one that had an extent before a place hasn't moved
abbrev pub StaysBelow : ℕ → PlannedSegment → Type 0
StaysBelow place segment = (before : Extent) → segment.before ≡ Some before → before.at < place → segment.before ≡ Some segment.extent

abbrev pub AllStayBelow : ℕ → List PlannedSegment → Type 0
AllStayBelow place segments = AllByRecursion (StaysBelow place) segments

-- ---- the last one before a place

-- of the segments from one on, this one had the extent that begins last before a place
pub record IsCandidate (from : ℕ) (segments : List PlannedSegment) (place : ℕ) (it : Candidate) : Type 0 where
  pub segment : PlannedSegment
  pub there : slice_get segments it.place ≡ Some segment
  pub before : segment.before ≡ Some it.extent
  pub last : last_before place (befores (drop from segments)) ≡ Some (record { id = segment.entry.id; extent = it.extent })

abbrev pub IsLastFrom : ℕ → List PlannedSegment → ℕ → Option Candidate → Type 0
IsLastFrom from segments place None = last_before place (befores (drop from segments)) ≡ None
IsLastFrom from segments place (Some it) = IsCandidate from segments place it

-- the later one of two before a place
abbrev pub later_candidate : ℕ → Candidate → Option Candidate → Option Candidate
later_candidate place it None = cond (nat_lt it.extent.at place) (Some it) None
later_candidate place it (Some best) =
    cond (nat_lt it.extent.at place) (cond (nat_lt best.extent.at it.extent.at) (Some it) (Some best)) (Some best)

-- ---- moves

-- the moves that are left, of so many segments before a place
abbrev pub moves_left : ℕ → ℕ → PreparedState → List NamedExtent
moves_left left place prepared = moved prepared.limit prepared.taken (last_ones left place (befores prepared.segments))

abbrev pub moves_from : ℕ → PreparedState → List NamedExtent
moves_from most prepared = moves_left most prepared.limit prepared

abbrev pub all_named : PreparedState → List NamedExtent
all_named prepared = map named_planned prepared.segments

abbrev pub all_entries : PreparedState → List EntryState
all_entries prepared = map (λ (segment : PlannedSegment). segment.entry) prepared.segments

-- so many segments were moved, of at most `most` that were offered
pub record AreMoved (most count : ℕ) (old new : PreparedState) : Type 0 where
  pub count_is : count ≡ length (moves_from most old)
  pub segments : all_named new ≡ map (with_move (moves_from most old)) (all_named old)
  pub entries : all_entries new ≡ all_entries old
  pub record_extent : new.record_extent ≡ old.record_extent

-- so many were moved, and others before a place are left to be offered
pub record AreMoving (most left count place : ℕ) (old now : PreparedState) : Type 0 where
  pub count_is : count + length (moves_left left place now) ≡ length (moves_from most old)
  pub segments : map (with_move (moves_left left place now)) (all_named now) ≡ map (with_move (moves_from most old)) (all_named old)
  pub entries : all_entries now ≡ all_entries old
  pub record_extent : now.record_extent ≡ old.record_extent

pub record IsOffering (store : StoreState) (most left count place : ℕ) (old now : PreparedState) : Type 0 where
  pub fewer : count + left ≤ most
  pub moving : AreMoving most left count place old now
  pub stay : AllStayBelow place now.segments
  pub by : IsPreparedBy store now
  pub says : SaysAsMuch store old now
