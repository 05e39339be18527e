use Rattle.doc_values.proofs.Kept.{belong_rows, belong_kept}
use Rattle.doc_values.proofs.column.Column.over.Goals as goal

pub invariant_of-result : goal.invariant_of-result
invariant_of-result g c =
    rw c.as_slice.ensures
    (belong_kept g.T.Ord.cmp g.T.ColumnValue.Fits g.T.ColumnValue.text g.T.ColumnValue.front c.args.bytes.now c.args.places.now c.requires.0
    (record { long = g.met.T.ColumnValue.long; shows = g.met.T.ColumnValue.shows }) c.requires.1)

pub returns : goal.returns
returns g c = λ column belong.
    rw c.as_slice.ensures
    (belong_rows g.T.Ord.cmp g.T.ColumnValue.Fits g.T.ColumnValue.text g.T.ColumnValue.front c.args.bytes.now c.args.places.now column
    (record { long = g.met.T.ColumnValue.long; shows = g.met.T.ColumnValue.shows }) belong)
