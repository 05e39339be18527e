use Rattle.std.proofs.Common.{◌≡◌, ◌++◌, length, take}
use Rattle.std.specs.List.{flat_map}
use Rattle.part_text.specs.Text.{i64_text, u32_text}
use Rattle.segment_builder.proofs.numbers.put_entry.Given as goal

abbrev pub invariant-values : goal.invariant-values
invariant-values l = l.into.items ≡ ((l.fn.into.items ++ u32_text l.doc) ++ u32_text (length l.values)) ++ flat_map i64_text (take l.value-index l.values)
