use Rattle.std.proofs.Common.{length, ap, arith}
use Rattle.doc_values.proofs.Entries.{length-column_rows}
use Rattle.doc_values.proofs.Kept.{fewer_values, row_is}
use Rattle.doc_values.proofs.column.Column.row_values.Goals as goal

pub value_bytes-requires-clause-below : goal.value_bytes-requires-clause-below
value_bytes-requires-clause-below g c =
    omega (arith, c.requires, ap length c.self.view_is, length-column_rows g.T.ColumnValue.front c.self.inside.places.now c.self.inside.bytes.now)

pub over-requires : goal.over-requires
over-requires g c =
    let it = c.self.inside in
    rw c.value_bytes.ensures
    (fewer_values g.T.Ord.cmp g.T.ColumnValue.front it.places.now it.bytes.now c.args.row c.self.invariant
    (omega (arith, c.requires, ap length c.self.view_is, length-column_rows g.T.ColumnValue.front it.places.now it.bytes.now)))

pub returns : goal.returns
returns g c =
    let it = c.self.inside in
    rw (c.over.ensures, c.value_bytes.ensures)
    (row_is g.T.ColumnValue.front it.places.now it.bytes.now c.args.row c.args.self.now c.self.view_is
    (omega (arith, c.requires, ap length c.self.view_is, length-column_rows g.T.ColumnValue.front it.places.now it.bytes.now)))
