-- Merges of neighbours that are asked for: when one is refused, what its start, its steps and its end do to a layout, and the
-- rows that show a layout.
use Rattle.std.specs.Prelude.{ℕ, ◌+◌, ◌-◌, ◌==◌, ◌≤◌, ◌<◌, nat_le, nat_lt, Bool, not, ◌&&◌, ◌||◌, if◌then◌else◌, ◌⊎◌, List, [], ◌∷◌, ◌++◌, length, map, filter, find, get_or, sum_by, Option, Some, None}
use Rattle.std.specs.List.{AllByRecursion}
use Rattle.layout.specs.Ascending.{Ascend}
use Rattle.layout.specs.Layout.{SegmentOf, OpenMerge, Layout, item_in, live_count, dead_count, live_of_range, remade}

-- ---- the open merges of a layout

-- so many merges can be open
abbrev pub most_merges : ℕ
most_merges = 16

-- the merge is of some segments, all of which there are
pub record IsWithin (segments : ℕ) (merge : OpenMerge) : Type 0 where
  pub some : 0 < merge.count
  pub within : merge.from + merge.count ≤ segments

-- no segment is in both
abbrev pub AreApart : OpenMerge → OpenMerge → Type 0
AreApart one other = (one.from + one.count ≤ other.from) ⊎ (other.from + other.count ≤ one.from)

abbrev pub merge_id : OpenMerge → ℕ
merge_id merge = merge.id

-- no two share a segment
abbrev pub AreAllApart : List OpenMerge → Type 0
AreAllApart [] = Unit {0}
AreAllApart (merge ∷ merges) = AllByRecursion (AreApart merge) merges × AreAllApart merges

-- What is so of open merges at all times, beside as many segments: each is of some of these, no two share one, and they stand
-- by ascending ids, which are among those that were given.
pub record AreOpen (segments started : ℕ) (merges : List OpenMerge) : Type 0 where
  pub within : AllByRecursion (IsWithin segments) merges
  pub apart : AreAllApart merges
  pub ids : Ascend 1 (map merge_id merges) (started + 1)
  pub few : length merges ≤ most_merges

-- ---- refusals

-- why a merge, or a step of one, is refused
pub data MergeFault : Type 0 where
  -- the range is empty or ends past the segments
  bad_range : MergeFault
  -- this open merge, the first of its kind, has a segment of the range
  overlaps : ℕ → MergeFault
  -- as many as can be are open
  too_many : MergeFault
  -- no merge with the id is open
  unknown : MergeFault
  -- so many roots are left
  not_done : ℕ → MergeFault

abbrev pub is_bad_range : {A : Type 0} → ℕ → ℕ → Layout A → Bool
is_bad_range {A} from count layout = (count == 0) || nat_lt (length layout.segments) (from + count)

-- a range and an open merge have a segment in common
abbrev pub shares : ℕ → ℕ → OpenMerge → Bool
shares from count merge = nat_lt merge.from (from + count) && nat_lt from (merge.from + merge.count)

-- the open merge with the least id that has a segment of a range
abbrev pub overlapping : {A : Type 0} → ℕ → ℕ → Layout A → Option OpenMerge
overlapping {A} from count layout = find (shares from count) layout.merges

abbrev pub overlap_fault : Option OpenMerge → Option MergeFault
overlap_fault None = None
overlap_fault (Some merge) = Some (overlaps merge.id)

abbrev pub crowded_fault : {A : Type 0} → Layout A → Option MergeFault
crowded_fault {A} layout = if nat_le most_merges (length layout.merges) then Some too_many else None

-- the fault that comes first
abbrev pub fault_or : Option MergeFault → Option MergeFault → Option MergeFault
fault_or None later = later
fault_or (Some fault) later = Some fault

-- a start's faults in order: the range is bad, an open merge has a segment of it, too many merges are open
abbrev pub start_fault : {A : Type 0} → ℕ → ℕ → Layout A → Option MergeFault
start_fault {A} from count layout =
    if is_bad_range from count layout then Some bad_range else fault_or (overlap_fault (overlapping from count layout)) (crowded_fault layout)

abbrev pub has_merge_id : ℕ → OpenMerge → Bool
has_merge_id id merge = merge.id == id

-- the open merge with an id
abbrev pub merge_named : {A : Type 0} → ℕ → Layout A → Option OpenMerge
merge_named {A} id layout = find (has_merge_id id) layout.merges

abbrev pub unknown_fault : Option OpenMerge → Option MergeFault
unknown_fault None = Some unknown
unknown_fault (Some merge) = None

-- a step's and an abort's fault: no merge with the id is open
abbrev pub step_fault : {A : Type 0} → ℕ → Layout A → Option MergeFault
step_fault {A} id layout = unknown_fault (merge_named id layout)

abbrev pub left_fault : Option OpenMerge → Option MergeFault
left_fault None = Some unknown
left_fault (Some merge) = if merge.left == 0 then None else Some (not_done merge.left)

-- a finish's faults: no merge with the id is open, or roots are left
abbrev pub finish_fault : {A : Type 0} → ℕ → Layout A → Option MergeFault
finish_fault {A} id layout = left_fault (merge_named id layout)

-- where a forced merge begins that leaves at most so many segments, and how many segments it merges
abbrev pub forced_from : ℕ → ℕ
forced_from most = most - 1

abbrev pub forced_count : {A : Type 0} → ℕ → Layout A → ℕ
forced_count {A} most layout = length layout.segments - forced_from most

-- a forced merge's fault: an open merge has a segment of those that it merges, where there are as many segments as may be left
abbrev pub force_fault : {A : Type 0} → ℕ → Layout A → Option MergeFault
force_fault {A} most layout =
    if nat_lt (length layout.segments) most then None else overlap_fault (overlapping (forced_from most) (forced_count most layout) layout)

-- ---- what is done to a layout

-- the merge of a range that opens: with the next id, and all live items of the range left to copy
abbrev pub merge_of : {A : Type 0} → ℕ → ℕ → Layout A → OpenMerge
merge_of {A} from count layout = record { id = layout.started + 1; from = from; count = count; left = length (live_of_range from count layout) }

-- a merge of a range is opened
abbrev pub with_merge : {A : Type 0} → ℕ → ℕ → Layout A → Layout A
with_merge {A} from count layout = record layout { merges = layout.merges ++ merge_of from count layout ∷ []; started = layout.started + 1 }

abbrev pub advanced_if : ℕ → ℕ → OpenMerge → OpenMerge
advanced_if id roots merge = if has_merge_id id merge then record merge { left = merge.left - roots } else merge

-- the merge with an id walks so many roots further, or those that are left
abbrev pub advanced : {A : Type 0} → ℕ → ℕ → Layout A → Layout A
advanced {A} id roots layout = record layout { merges = map (advanced_if id roots) layout.merges }

abbrev pub is_other : ℕ → OpenMerge → Bool
is_other id merge = not (has_merge_id id merge)

-- the merge with an id is open no more
abbrev pub closed : {A : Type 0} → ℕ → Layout A → Layout A
closed {A} id layout = record layout { merges = filter (is_other id) layout.merges }

-- an abort leaves all segments as they are
abbrev pub aborted : {A : Type 0} → ℕ → Layout A → Layout A
aborted {A} id layout = closed id layout

-- a finish makes one segment of the live items of the merge's range, or none
abbrev pub finished : {A : Type 0} → OpenMerge → Layout A → Layout A
finished {A} merge layout = remade merge.from merge.count (closed merge.id layout)

-- a forced merge does nothing where there are fewer segments than may be left; else one segment, or none, takes the place of
-- all from the last that may be left on
abbrev pub forced : {A : Type 0} → ℕ → Layout A → Layout A
forced {A} most layout = if nat_lt (length layout.segments) most then layout else remade (forced_from most) (forced_count most layout) layout

-- neighbours are merged by themselves by this factor from now on, or no more
abbrev pub with_factor : {A : Type 0} → Option ℕ → Layout A → Layout A
with_factor {A} factor layout = record layout { factor = factor }

-- a factor of 0 is none
abbrev pub factor_of : ℕ → Option ℕ
factor_of factor = if factor == 0 then None else Some factor

-- ---- rows

-- a segment: its dead and its live items, the numbers of its first and of its last item, and all its objects, dead ones too
pub record SegmentSummary : Type 0 where
  pub dead : ℕ
  pub first : ℕ
  pub last : ℕ
  pub live : ℕ
  pub objects : ℕ

-- by the objects that an item has, and by its number
abbrev pub summary_of : {A : Type 0} → (A → ℕ) → (A → ℕ) → SegmentOf A → SegmentSummary
summary_of {A} objects number segment = record {
  dead = dead_count segment;
  first = get_or (map number (map item_in segment.items)) 0 0;
  last = get_or (map number (map item_in segment.items)) (length segment.items - 1) 0;
  live = live_count segment;
  objects = sum_by objects (map item_in segment.items);
}

-- the rows of a layout's segments; those of its open merges are `merges` as they stand
abbrev pub summaries_of : {A : Type 0} → (A → ℕ) → (A → ℕ) → Layout A → List SegmentSummary
summaries_of {A} objects number layout = map (summary_of objects number) layout.segments
