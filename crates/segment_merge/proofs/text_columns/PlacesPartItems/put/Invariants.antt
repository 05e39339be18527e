use Rattle.std.proofs.Common.{◌≡◌, ◌++◌, drop}
use Rattle.std.specs.List.{flat_map}
use Rattle.part_text.specs.Text.{u32_text}
use Rattle.segment_merge.proofs.text_columns.PlacesPartItems.put.Given as goal

abbrev pub invariant-numbers : goal.invariant-numbers
invariant-numbers l = l.into.items ++ flat_map u32_text (drop l.number-index l.number-items) ≡ l.fn.into.items ++ flat_map u32_text l.number-items
