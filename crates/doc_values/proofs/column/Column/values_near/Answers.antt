use Rattle.std.proofs.Common.{◌+◌, ◌<◌, ◌^◌, sym, subst, rules, arith, []}
use Rattle.doc_values.specs.Values.{AreRows}
use Rattle.doc_values.proofs.Entries.{length-column_rows}
use Rattle.doc_values.proofs.Lookups.{values_of-ascending}
use Rattle.doc_values.proofs.Numbers.{values_none}
use Rattle.doc_values.proofs.Kept.{fewer_values, found_values, missing_values}
use Rattle.doc_values.proofs.column.Column.values_near.Goals as goal

pub overflow_cast-near-in-Some : goal.overflow_cast-near-in-Some
overflow_cast-near-in-Some g c =
    let long = length-column_rows g.T.ColumnValue.front c.self.inside.places.now c.self.inside.bytes.now in
    let short : c.in-Some.at < 2 ^ 32 = omega (arith, long, c.self.invariant.rows_are.fewer, c.in-Some.ensures.found.0) in
    search (rules, short)

pub overflow_add-near : goal.overflow_add-near
overflow_add-near g c =
    let long = length-column_rows g.T.ColumnValue.front c.self.inside.places.now c.self.inside.bytes.now in
    let short : c.in-Some.at + 1 < 2 ^ 32 = omega (arith, long, c.self.invariant.rows_are.fewer, c.in-Some.ensures.found.0) in
    search (rules, short)

pub over-requires : goal.over-requires
over-requires g c =
    let it = c.self.inside in
    rw c.value_bytes.ensures (fewer_values g.T.Ord.cmp g.T.ColumnValue.front it.places.now it.bytes.now c.in-Some.at c.self.invariant c.in-Some.ensures.found.0)

pub returns-in-Some-clause-values : goal.returns-in-Some-clause-values
returns-in-Some-clause-values g c =
    let it = c.self.inside in
    rw (c.over.ensures, c.value_bytes.ensures)
    (found_values g.T.Ord.cmp g.T.ColumnValue.front it.places.now it.bytes.now c.in-Some.at c.args.doc c.args.self.now c.self.invariant c.self.view_is c.in-Some.ensures.found.0 c.in-Some.ensures.found.1)

pub returns-in-Some-clause-ascending : goal.returns-in-Some-clause-ascending
returns-in-Some-clause-ascending g c =
    rw (returns-in-Some-clause-values g c)
    (values_of-ascending g.T.Ord.cmp c.args.self.now c.args.doc (subst (AreRows g.T.Ord.cmp) c.self.view_is c.self.invariant.rows_are))

pub returns-in-None-clause-values : goal.returns-in-None-clause-values
returns-in-None-clause-values g c =
    let it = c.self.inside in
    rw (c.over-in-None.ensures, c.split_at.ensures.front, values_none g.T.ColumnValue.front [] (omega arith))
    (sym (missing_values g.T.ColumnValue.front it.places.now it.bytes.now c.args.doc c.args.self.now c.self.view_is c.in-None.ensures.missing))

pub returns-in-None-clause-ascending : goal.returns-in-None-clause-ascending
returns-in-None-clause-ascending g c =
    rw (returns-in-None-clause-values g c)
    (values_of-ascending g.T.Ord.cmp c.args.self.now c.args.doc (subst (AreRows g.T.Ord.cmp) c.self.view_is c.self.invariant.rows_are))
