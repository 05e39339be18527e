use Rattle.std.proofs.Common.{◌∙◌}
use Rattle.doc_values.proofs.Singles.{fewer_rows, single_rows_are, single_values, sixteen_each}
use Rattle.doc_values.proofs.column.Column.single_rows.Goals as goal

pub over-requires : goal.over-requires
over-requires g c =
    let it = c.self.inside in
    fewer_rows g.T.Ord.cmp g.T.ColumnValue.front it.places.now it.bytes.now c.in-Some.bytes.now c.self.invariant c.in-Some.ensures.some

pub returns-in-Some-clause-some : goal.returns-in-Some-clause-some
returns-in-Some-clause-some g c =
    let it = c.self.inside in
    let own = c.in-Some.bytes.now in
    let is = single_rows_are g.T.ColumnValue.front it.places.now it.bytes.now own c.args.self.now c.self.view_is c.in-Some.ensures.some in
    (c.over.ensures ∙ is, single_values g.T.ColumnValue.front own c.args.self.now is)

pub returns-in-None-clause-none : goal.returns-in-None-clause-none
returns-in-None-clause-none g c = λ single.
    let it = c.self.inside in
    c.in-None.ensures.none (sixteen_each g.T.ColumnValue.front it.places.now it.bytes.now c.args.self.now c.self.invariant.entries c.self.view_is single)
