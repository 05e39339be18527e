use Rattle.std.proofs.Common.{◌≡◌, ◌++◌, drop, length}
use Rattle.std.specs.List.{flat_map}
use Rattle.doc_values.specs.Text.{entry_text}
use Rattle.part_text.specs.Text.{i64_text, u32_text}
use Rattle.segment_builder.specs.Columns.{number_rows}
use Rattle.segment_builder.proofs.numbers.put_column.Given as goal

abbrev pub invariant-members : goal.invariant-members
invariant-members l =
    l.into.items ++ flat_map (entry_text i64_text) (number_rows (drop l.doc-index l.members))
    ≡ ((l.fn.into.items ++ u32_text l.field) ++ u32_text (length l.members)) ++ flat_map (entry_text i64_text) (number_rows l.members)
