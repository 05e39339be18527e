-- What settling by a factor leaves: few segments beside many items (Lucene, `LogMergePolicy`).
use Rattle.std.specs.Prelude.{ℕ, ◌-◌, ◌^◌, ◌<◌, ◌≤◌, length}
use Rattle.std.specs.List.{All}
use Rattle.layout.specs.Layout.{SegmentOf, Layout, live_items, live_count, dead_count}

-- each segment more multiplies the live items by the factor, each has a live item, and none has more dead than live
pub record HasFewSegments {A : Type 0} (factor : ℕ) (layout : Layout A) : Type 0 where
  pub few : 0 < length layout.segments → factor ^ (length layout.segments - 1) ≤ length (live_items layout)
  pub live : All (λ (segment : SegmentOf A). 0 < live_count segment) layout.segments
  pub dead : All (λ (segment : SegmentOf A). dead_count segment ≤ live_count segment) layout.segments
