use Rattle.std.proofs.Common.{◌≡◌, ◌++◌, length, take}
use Rattle.std.specs.List.{flat_map}
use Rattle.part_text.specs.Text.{u32_text}
use Rattle.segment_builder.proofs.rows.put_posting.Given as goal

abbrev pub invariant-positions : goal.invariant-positions
invariant-positions l = l.into.items ≡ ((l.fn.into.items ++ u32_text l.doc) ++ u32_text (length l.positions)) ++ flat_map u32_text (take l.position-index l.positions)
