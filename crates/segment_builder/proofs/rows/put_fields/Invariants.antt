use Rattle.std.proofs.Common.{◌≡◌, ◌++◌, drop}
use Rattle.std.specs.List.{AllByRecursion, flat_map}
use Rattle.term_table.specs.Part.{row_text, IsRow}
use Rattle.segment_builder.specs.Columns.{terms_in, terms_lent}
use Rattle.segment_builder.specs.Terms.{rows_in}
use Rattle.segment_builder.proofs.rows.put_fields.Given as goal

abbrev pub invariant-fields : goal.invariant-fields
invariant-fields l =
    AllByRecursion IsRow (rows_in (drop l.field-index l.fields))
    × (l.into.items ++ flat_map row_text (rows_in (drop l.field-index l.fields)) ≡ l.fn.into.items ++ flat_map row_text (rows_in l.fields))
    × (terms_lent l.terms.items ++ terms_in (rows_in (drop l.field-index l.fields)) ≡ terms_lent l.fn.terms.items ++ terms_in (rows_in l.fields))
