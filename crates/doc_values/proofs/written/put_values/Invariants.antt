use Rattle.std.proofs.Common.{◌≡◌, ◌++◌, length, take}
use Rattle.std.specs.List.{flat_map}
use Rattle.part_text.specs.Text.{u32_text}
use Rattle.doc_values.proofs.written.put_values.Given as goal

abbrev pub invariant-values : goal.invariant-values
invariant-values g l = l.into.items ≡ (l.fn.into.items ++ u32_text (length l.values)) ++ flat_map g.T.ColumnValue.text (take l.value-index l.values)
