use Rattle.std.proofs.Common.{None}
use Rattle.part_text.specs.Reading.{u32_at, many_at}
use Rattle.store_text.specs.Reading.{index_at, dead_at}
use Rattle.store_text.proofs.Items.{no_number, items_none, items_more, items_end}
use Rattle.store_text.proofs.walk.dead_at.Goals as goal

pub returns-in_default : goal.returns-in_default
unfolding dead_at
returns-in_default c = no_number u32_at (λ index. index) index_at c.args.bytes.now c.in_default.ensures

pub returns-in_default-index_at : goal.returns-in_default-index_at
unfolding dead_at
returns-in_default-index_at c =
    items_none u32_at (λ index. index) index_at c.args.bytes.now c.in-Some.rest.now c.in-Some.count c.indexes.before c.indexes.counter c.indexes.rest.now c.indexes.indexes.items
    c.in-Some.ensures c.indexes.invariant c.indexes-test.true c.in_default-index_at.ensures

pub indexes-preserved : goal.indexes-preserved
indexes-preserved c =
    rw c.in_ok-push.ensures.items (
    items_more (λ index. index) index_at (many_at (λ index. index) index_at None c.in-Some.count c.in-Some.rest.now) c.in-Some.count c.indexes.before c.indexes.counter c.indexes.rest.now c.indexes.indexes.items c.in-Some-index_at.index c.in-Some-index_at.after.now
    c.indexes.invariant c.indexes-test.true c.in-Some-index_at.ensures
    )

pub returns : goal.returns
unfolding dead_at
returns c =
    rw c.of.ensures (
    items_end u32_at (λ index. index) index_at c.args.bytes.now c.in-Some.rest.now c.in-Some.count c.indexes.before c.indexes.counter c.indexes.rest.now c.indexes.indexes.items
    c.in-Some.ensures c.indexes.invariant c.indexes-test.false
    )
