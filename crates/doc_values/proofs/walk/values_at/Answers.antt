use Rattle.std.proofs.Common.{None, refl, arith}
use Rattle.part_text.specs.Reading.{u32_at, many_at, counted_at}
use Rattle.part_text.specs.Walks.{walked_more, counted_fails, counted_ends, keyed_itself}
use Rattle.doc_values.specs.Reading.{value_at, values_at}
use Rattle.doc_values.proofs.walk.values_at.Goals as goal

pub returns-in_err-count : goal.returns-in_err-count
unfolding values_at counted_at
returns-in_err-count g c =
    let none = c.from_residual.ensures in
    rw (none, c.in_err-count.ensures) refl

pub returns-in_err-value : goal.returns-in_err-value
unfolding values_at
returns-in_err-value g c =
    let none = c.from_residual-in_err-value.ensures in
    let item = value_at g.T.Ord.cmp g.T.ColumnValue.read in
    let fails = counted_fails u32_at (λ (value : g.row.T.Denot). value) item c.args.bytes.now c.in_ok-count.rest.now c.in_ok-count.count c.values.before c.values.counter c.values.rest.now
    c.in_ok-count.ensures c.values.invariant c.values-test.true c.in_err-value.ensures in
    rw none fails

pub values-preserved : goal.values-preserved
values-preserved g c =
    let item = value_at g.T.Ord.cmp g.T.ColumnValue.read in
    walked_more (λ (value : g.row.T.Denot). value) item (many_at (λ (value : g.row.T.Denot). value) item None c.in_ok-count.count c.in_ok-count.rest.now) c.in_ok-count.count c.values.before c.values.counter c.values.rest.now c.in_ok-value.value c.in_ok-value.after.now
    c.values.invariant c.values-test.true (keyed_itself (item c.values.before c.values.rest.now) c.in_ok-value.value c.in_ok-value.after.now c.in_ok-value.ensures)

pub returns : goal.returns
unfolding values_at
returns g c =
    let item = value_at g.T.Ord.cmp g.T.ColumnValue.read in
    counted_ends u32_at (λ (value : g.row.T.Denot). value) item c.args.bytes.now c.in_ok-count.rest.now c.in_ok-count.count c.values.before c.values.counter c.values.rest.now
    c.in_ok-count.ensures c.values.invariant (omega (arith, c.values.auto.counter-end)) c.values-test.false
