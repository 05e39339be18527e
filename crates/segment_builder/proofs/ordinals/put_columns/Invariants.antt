use Rattle.std.proofs.Common.{◌≡◌, ◌++◌, drop, map}
use Rattle.std.specs.List.{flat_map}
use Rattle.doc_values.specs.Text.{column_text}
use Rattle.part_text.specs.Text.{u64_text}
use Rattle.segment_builder.specs.Columns.{keyword_groups, ordinal_column, terms_lent}
use Rattle.segment_builder.proofs.ordinals.put_columns.Given as goal

abbrev pub invariant-groups : goal.invariant-groups
invariant-groups l =
    l.into.items ++ flat_map (column_text u64_text) (map (ordinal_column (terms_lent l.terms)) (keyword_groups (drop l.field-index l.groups)))
    ≡ l.fn.into.items ++ flat_map (column_text u64_text) (map (ordinal_column (terms_lent l.terms)) (keyword_groups l.groups))
