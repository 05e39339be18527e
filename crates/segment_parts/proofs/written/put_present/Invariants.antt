use Rattle.std.proofs.Common.{◌≡◌, ◌++◌, length, take}
use Rattle.std.specs.List.{flat_map}
use Rattle.part_text.specs.Text.{u32_text}
use Rattle.segment_parts.specs.Text.{presence_text}
use Rattle.segment_parts.proofs.written.put_present.Given as goal

abbrev pub invariant-columns : goal.invariant-columns
invariant-columns l = l.into.items ≡ (l.fn.into.items ++ u32_text (length l.columns)) ++ flat_map presence_text (take l.field-index l.columns)
