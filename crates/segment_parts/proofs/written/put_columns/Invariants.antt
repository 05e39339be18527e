use Rattle.std.proofs.Common.{◌≡◌, ◌++◌, length, take}
use Rattle.std.specs.List.{flat_map}
use Rattle.part_text.specs.Text.{u32_text}
use Rattle.doc_values.specs.Text.{column_text}
use Rattle.segment_parts.proofs.written.put_columns.Given as goal

abbrev pub invariant-columns : goal.invariant-columns
invariant-columns g l = l.into.items ≡ (l.fn.into.items ++ u32_text (length l.own)) ++ flat_map (column_text g.T.ColumnValue.text) (take l.column-index l.own)
