use Rattle.std.proofs.Common.{◌-◌, ◌<◌, ◌^◌, length, sym, ap, ◌∙◌, rules, arith}
use Rattle.doc_values.proofs.Entries.{length-column_rows}
use Rattle.doc_values.proofs.column.Column.rows.Goals as goal

pub overflow_cast-result : goal.overflow_cast-result
overflow_cast-result g c =
    let long = length-column_rows g.T.ColumnValue.front c.self.inside.places.now c.self.inside.bytes.now in
    let short : length c.self.inside.places.now - 1 < 2 ^ 32 = omega (arith, long, c.self.invariant.rows_are.fewer) in
    search (rules, short)

pub returns-clause-count : goal.returns-clause-count
returns-clause-count g c = sym (length-column_rows g.T.ColumnValue.front c.self.inside.places.now c.self.inside.bytes.now) ∙ ap length c.self.view_is
