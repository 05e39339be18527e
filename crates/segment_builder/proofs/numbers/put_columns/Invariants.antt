use Rattle.std.proofs.Common.{◌≡◌, ◌++◌, drop}
use Rattle.std.specs.List.{flat_map}
use Rattle.doc_values.specs.Text.{column_text}
use Rattle.part_text.specs.Text.{i64_text}
use Rattle.segment_builder.specs.Columns.{number_groups}
use Rattle.segment_builder.proofs.numbers.put_columns.Given as goal

abbrev pub invariant-groups : goal.invariant-groups
invariant-groups l = l.into.items ++ flat_map (column_text i64_text) (number_groups (drop l.field-index l.groups)) ≡ l.fn.into.items ++ flat_map (column_text i64_text) (number_groups l.groups)
