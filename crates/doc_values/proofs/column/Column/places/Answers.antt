use Rattle.std.proofs.Common.{drop, refl, arith}
use Rattle.part_text.specs.Reads.{IsBytes}
use Rattle.doc_values.specs.Reading.{HasHead, HasNoHead}
use Rattle.doc_values.proofs.Found.{head_there, no_head_there, no_column, past_the_end, no_head, no_entries, head_within, found}
use Rattle.doc_values.proofs.column.Column.places.Goals as goal

pub returns-in_default-clause-only : goal.returns-in_default-clause-only
returns-in_default-clause-only g c = λ _.
    no_column g.T.Ord.cmp g.T.ColumnValue.Fits g.T.ColumnValue.text g.T.ColumnValue.read (record { law = g.met.T.ColumnValue.reads }) c.args.bytes.now c.args.at
    (past_the_end g.T.Ord.cmp g.T.ColumnValue.read c.args.bytes.now c.args.at (c.in_default.ensures.none refl))

pub returns-in_default-head_at-clause-only : goal.returns-in_default-head_at-clause-only
returns-in_default-head_at-clause-only g c = λ _.
    let never : HasNoHead (drop c.args.at c.args.bytes.now) = no_head_there c.in-Some.own.now (drop c.args.at c.args.bytes.now) c.in-Some.ensures.some.0 (c.in_default-head_at.ensures.none refl) in
    no_column g.T.Ord.cmp g.T.ColumnValue.Fits g.T.ColumnValue.text g.T.ColumnValue.read (record { law = g.met.T.ColumnValue.reads }) c.args.bytes.now c.args.at
    (no_head g.T.Ord.cmp g.T.ColumnValue.read (drop c.args.at c.args.bytes.now) never)

pub placed_entries-requires : goal.placed_entries-requires
placed_entries-requires g c =
    let bytes : IsBytes c.args.bytes.now = λ i. omega (arith, c.type_inv.bytes i) in
    let count = c.in-Some-head_at.count in
    let entries = c.in-Some-head_at.entries.now in
    let head : HasHead (drop c.args.at c.args.bytes.now) count entries = head_there c.in-Some.own.now (drop c.args.at c.args.bytes.now) count entries c.in-Some.ensures.some.0 c.in-Some-head_at.ensures.head in
    omega (arith, head_within c.args.bytes.now c.args.at count entries bytes c.in-Some.ensures.some.1 head)

pub overflow_sub-result : goal.overflow_sub-result
overflow_sub-result g c =
    let bytes : IsBytes c.args.bytes.now = λ i. omega (arith, c.type_inv.bytes i) in
    let count = c.in-Some-head_at.count in
    let entries = c.in-Some-head_at.entries.now in
    let head : HasHead (drop c.args.at c.args.bytes.now) count entries = head_there c.in-Some.own.now (drop c.args.at c.args.bytes.now) count entries c.in-Some.ensures.some.0 c.in-Some-head_at.ensures.head in
    let placed = rw c.in-Some-2.is at c.in_ok-places.ensures.entries in
    (found g.T.Ord.cmp g.T.ColumnValue.Fits g.T.ColumnValue.text g.T.ColumnValue.read (record { law = g.met.T.ColumnValue.reads }) c.args.bytes.now c.args.at count entries c.in-Some-2.rest.now c.in-Some-2.places bytes c.in-Some.ensures.some.1 head placed).within

pub returns-in-Some-2-clause-found : goal.returns-in-Some-2-clause-found
returns-in-Some-2-clause-found g c =
    let bytes : IsBytes c.args.bytes.now = λ i. omega (arith, c.type_inv.bytes i) in
    let count = c.in-Some-head_at.count in
    let entries = c.in-Some-head_at.entries.now in
    let head : HasHead (drop c.args.at c.args.bytes.now) count entries = head_there c.in-Some.own.now (drop c.args.at c.args.bytes.now) count entries c.in-Some.ensures.some.0 c.in-Some-head_at.ensures.head in
    let placed = rw c.in-Some-2.is at c.in_ok-places.ensures.entries in
    let it = found g.T.Ord.cmp g.T.ColumnValue.Fits g.T.ColumnValue.text g.T.ColumnValue.read (record { law = g.met.T.ColumnValue.reads }) c.args.bytes.now c.args.at count entries c.in-Some-2.rest.now c.in-Some-2.places bytes c.in-Some.ensures.some.1 head placed in
    (it.column, it.stands)

pub returns-in-None-clause-only : goal.returns-in-None-clause-only
returns-in-None-clause-only g c = λ _.
    let count = c.in-Some-head_at.count in
    let entries = c.in-Some-head_at.entries.now in
    let head : HasHead (drop c.args.at c.args.bytes.now) count entries = head_there c.in-Some.own.now (drop c.args.at c.args.bytes.now) count entries c.in-Some.ensures.some.0 c.in-Some-head_at.ensures.head in
    let none = rw c.in-None.is at c.in_ok-places.ensures.none in
    no_column g.T.Ord.cmp g.T.ColumnValue.Fits g.T.ColumnValue.text g.T.ColumnValue.read (record { law = g.met.T.ColumnValue.reads }) c.args.bytes.now c.args.at
    (no_entries g.T.Ord.cmp g.T.ColumnValue.read (drop c.args.at c.args.bytes.now) count entries head (none refl))
