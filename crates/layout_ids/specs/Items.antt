-- The items of a layout: of its segments, dead ones too, and of its buffer.
use Rattle.std.specs.Prelude.{List, ◌++◌, map}
use Rattle.std.specs.List.{All, flat_map}
use Rattle.layout.specs.Layout.{SegmentOf, Layout, item_in}

abbrev pub items_in : {A : Type 0} → SegmentOf A → List A
items_in {A} segment = map item_in segment.items

abbrev pub items_of : {A : Type 0} → Layout A → List A
items_of {A} layout = flat_map items_in layout.segments ++ layout.buffer

-- what holds of each of them
abbrev pub AllItems : {A : Type 0} → (A → Type 0) → Layout A → Type 0
AllItems {A} P layout = All P (items_of layout)
