-- What settling makes of the segments of a layout, as runs say it.
use Rattle.std.specs.Prelude.{◌≡◌, ◌≢◌, ℕ, ◌+◌, ◌-◌, ◌^◌, ◌<◌, ◌≤◌, nat_lt, Bool, List, [], ◌∷◌, map, take, drop, count_by, Option, Some, None}
use Rattle.std.specs.List.{AllPairs, flat_map, list_any}
use Rattle.layout.specs.Layout.{SegmentOf, OpenMerge, Layout, live_in, live_count, dead_count, covers, segment_of}
use Rattle.merge_policy.specs.declared.counts.SegmentCount.{SegmentCount}
use Rattle.merge_policy.specs.declared.runs.Run.{Run}

-- ---- what is counted

-- of a segment at an index, beside the open merges
abbrev pub count_at : {A : Type 0} → List OpenMerge → ℕ → SegmentOf A → SegmentCount
count_at {A} merges index segment = record { live = live_count segment; dead = dead_count segment; held = list_any (covers index) merges }

-- of segments, the first of which stands at an index
abbrev pub counts_from : {A : Type 0} → List OpenMerge → ℕ → List (SegmentOf A) → List SegmentCount
counts_from {A} merges index [] = []
counts_from {A} merges index (segment ∷ segments) = count_at merges index segment ∷ counts_from merges (index + 1) segments

abbrev pub counts_of : {A : Type 0} → Layout A → List SegmentCount
counts_of {A} layout = counts_from layout.merges 0 layout.segments

abbrev pub live_counted : SegmentCount → ℕ
live_counted count = count.live

-- the greatest factor, and the most items that may be live in all: their product is a number of the machine
abbrev pub most_factor : ℕ
most_factor = 10

abbrev pub most_counted : ℕ
most_counted = 2 ^ 60

-- an open merge has one segment at least, and none beyond so many
pub record IsAmong (count : ℕ) (merge : OpenMerge) : Type 0 where
  pub some : 0 < merge.count
  pub within : merge.from + merge.count ≤ count

-- ---- what runs say

-- the segments from the first of a run to its last
abbrev pub range_of : {A : Type 0} → Run → List (SegmentOf A) → List (SegmentOf A)
range_of {A} run segments = take (run.last + 1 - run.first) (drop run.first segments)

-- they stay as they are, or give way to one segment of their live items, with the next id after so many
abbrev pub given_way : {A : Type 0} → ℕ → Option ℕ → List (SegmentOf A) → List (SegmentOf A)
given_way {A} made None range = range
given_way {A} made (Some before) range = segment_of (made + before) (flat_map live_in range)

-- the one segment of a run
abbrev pub run_segment : {A : Type 0} → Layout A → Run → List (SegmentOf A)
run_segment {A} layout run = given_way layout.made run.made (range_of run layout.segments)

abbrev pub ends_before : ℕ → Run → Bool
ends_before index run = nat_lt run.last index

-- an open merge begins behind as many segments as runs stand before its first
abbrev pub moved : List Run → OpenMerge → OpenMerge
moved runs merge = record merge { from = count_by (ends_before merge.from) runs }

-- a layout after runs of its segments gave way, for which so many were made
abbrev pub laid_by : {A : Type 0} → List Run → ℕ → Layout A → Layout A
laid_by {A} runs made layout = record layout {
  segments = flat_map (run_segment layout) runs;
  merges = map (moved runs) layout.merges;
  made = layout.made + made;
}

-- ---- runs stand in order

-- where a run stays it is one segment, and else fewer than so many are made before it
abbrev pub IsRunOf : ℕ → Run → Option ℕ → Type 0
IsRunOf made run None = run.first ≡ run.last
IsRunOf made run (Some before) = before < made

-- runs stand one behind the other from an index to an end
abbrev pub AreRuns : ℕ → ℕ → List Run → ℕ → Type 0
AreRuns made from [] end = from ≤ end
AreRuns made from (run ∷ runs) end = (from ≤ run.first) × ((run.first ≤ run.last) × (IsRunOf made run run.made × AreRuns made (run.last + 1) runs end))

-- no segment that is made is another's
abbrev pub AreApart : Option ℕ → Option ℕ → Type 0
AreApart None None = Unit {0}
AreApart None (Some other) = Unit {0}
AreApart (Some one) None = Unit {0}
AreApart (Some one) (Some other) = one ≢ other

abbrev pub HaveOwnNumbers : List Run → Type 0
HaveOwnNumbers runs = AllPairs (λ (one other : Run). AreApart one.made other.made) runs
