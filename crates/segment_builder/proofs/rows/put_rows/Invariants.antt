use Rattle.std.proofs.Common.{◌≡◌, ◌≤◌, ◌-◌, ◌++◌, drop, length}
use Rattle.std.specs.List.{AllByRecursion, flat_map}
use Rattle.term_table.specs.Part.{row_text, IsRow}
use Rattle.segment_builder.specs.Columns.{terms_in, terms_lent}
use Rattle.segment_builder.specs.Terms.{entries_seen, field_rows}
use Rattle.segment_builder.proofs.rows.put_rows.Given as goal

abbrev pub invariant-rows : goal.invariant-rows
invariant-rows g l =
    (l.at ≤ length l.entries)
    × AllByRecursion IsRow (field_rows l.field (entries_seen g.T.Term.bytes g.T.Term.positions (drop l.at l.entries)))
    × (l.into.items ++ flat_map row_text (field_rows l.field (entries_seen g.T.Term.bytes g.T.Term.positions (drop l.at l.entries))) ≡ l.fn.into.items ++ flat_map row_text (field_rows l.field (entries_seen g.T.Term.bytes g.T.Term.positions l.entries)))
    × (terms_lent l.terms.items ++ terms_in (field_rows l.field (entries_seen g.T.Term.bytes g.T.Term.positions (drop l.at l.entries))) ≡ terms_lent l.fn.terms.items ++ terms_in (field_rows l.field (entries_seen g.T.Term.bytes g.T.Term.positions l.entries)))

abbrev pub decreases-rows : goal.decreases-rows
decreases-rows g l = length l.entries - l.at
