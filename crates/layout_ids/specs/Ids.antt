-- When an id stands for the same items in two layouts, an earlier and a later one.
use Rattle.std.specs.Prelude.{◌≡◌, ◌<◌, ◌≤◌, ◌⊎◌, List, map, Contains}
use Rattle.std.specs.List.{AllByRecursion}
use Rattle.layout.specs.Layout.{SegmentOf, Layout, item_in}

-- there was a segment with the id of this one and with its items; which of them are live may differ
pub record Was {A : Type 0} (segments : List (SegmentOf A)) (segment : SegmentOf A) : Type 0 where
  pub before : SegmentOf A
  pub there : Contains segments before
  pub id : before.id ≡ segment.id
  pub items : map item_in before.items ≡ map item_in segment.items

-- the segment has an id that no segment of the layout had, or was there
abbrev pub IsNewOr : {A : Type 0} → Layout A → SegmentOf A → Type 0
IsNewOr {A} layout segment = (layout.made ≤ segment.id) ⊎ Was layout.segments segment

-- each segment has an id that was given
abbrev pub HaveGivenIds : {A : Type 0} → Layout A → Type 0
HaveGivenIds {A} layout = AllByRecursion (λ (segment : SegmentOf A). segment.id < layout.made) layout.segments

-- No id that was given to a segment stands for other items than before, and segments still have ids that were given.
pub record KeepsItems {A : Type 0} (before after : Layout A) : Type 0 where
  pub made : before.made ≤ after.made
  pub each : AllByRecursion (IsNewOr before) after.segments
  pub given : HaveGivenIds before → HaveGivenIds after
