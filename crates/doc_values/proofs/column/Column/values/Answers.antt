use Rattle.std.proofs.Common.{sym, arith, []}
use Rattle.doc_values.proofs.Numbers.{values_none}
use Rattle.doc_values.proofs.Kept.{fewer_values, found_values, missing_values}
use Rattle.doc_values.proofs.column.Column.values.Goals as goal

pub over-requires : goal.over-requires
over-requires g c =
    let it = c.self.inside in
    rw c.value_bytes.ensures (fewer_values g.T.Ord.cmp g.T.ColumnValue.front it.places.now it.bytes.now c.in-Some.at c.self.invariant c.in-Some.ensures.found.0)

pub returns-in-Some-clause-values : goal.returns-in-Some-clause-values
returns-in-Some-clause-values g c =
    let it = c.self.inside in
    rw (c.over.ensures, c.value_bytes.ensures)
    (found_values g.T.Ord.cmp g.T.ColumnValue.front it.places.now it.bytes.now c.in-Some.at c.args.doc c.args.self.now c.self.invariant c.self.view_is c.in-Some.ensures.found.0 c.in-Some.ensures.found.1)

pub returns-in-None-clause-values : goal.returns-in-None-clause-values
returns-in-None-clause-values g c =
    let it = c.self.inside in
    rw (c.over-in-None.ensures, c.split_at.ensures.front, values_none g.T.ColumnValue.front [] (omega arith))
    (sym (missing_values g.T.ColumnValue.front it.places.now it.bytes.now c.args.doc c.args.self.now c.self.view_is c.in-None.ensures.missing))
