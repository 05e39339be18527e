use Rattle.std.proofs.Common.{◌≡◌, ◌++◌, drop, length, map}
use Rattle.std.specs.List.{flat_map}
use Rattle.doc_values.specs.Text.{entry_text}
use Rattle.part_text.specs.Text.{u32_text, u64_text}
use Rattle.segment_builder.specs.Columns.{keyword_rows, ordinal_row, terms_lent}
use Rattle.segment_builder.proofs.ordinals.put_column.Given as goal

abbrev pub invariant-members : goal.invariant-members
invariant-members l =
    l.into.items ++ flat_map (entry_text u64_text) (map (ordinal_row (terms_lent l.terms) l.field) (keyword_rows (drop l.doc-index l.members)))
    ≡ ((l.fn.into.items ++ u32_text l.field) ++ u32_text (length l.members)) ++ flat_map (entry_text u64_text) (map (ordinal_row (terms_lent l.terms) l.field) (keyword_rows l.members))
