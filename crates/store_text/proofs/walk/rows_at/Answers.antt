use Rattle.std.proofs.Common.{Some, None}
use Rattle.part_text.specs.Reading.{u32_at, many_at}
use Rattle.store_text.specs.Reading.{row_at, rows_at}
use Rattle.store_text.proofs.Items.{no_number, items_none, items_more, items_end}
use Rattle.store_text.proofs.walk.rows_at.Goals as goal

pub returns-in_default : goal.returns-in_default
unfolding rows_at
returns-in_default c = no_number u32_at (λ _. tt {0}) (λ _. row_at) c.args.bytes.now c.in_default.ensures

pub returns-in_default-2 : goal.returns-in_default-2
unfolding rows_at
returns-in_default-2 c =
    let none = rw c.in_default-2.is at c.in_ok-row.ensures in
    items_none u32_at (λ _. tt {0}) (λ _. row_at) c.args.bytes.now c.in-Some.rest.now c.in-Some.count c.rows.invariant.0 c.rows.counter c.rows.rest.now c.rows.rows.items
    c.in-Some.ensures c.rows.invariant.1 c.rows-test.true none

pub rows-preserved : goal.rows-preserved
rows-preserved c =
    let read = rw c.in-Some-2.is at c.in_ok-row.ensures in
    rw c.in_ok-push.ensures.items (
      Some tt,
      items_more (λ _. tt {0}) (λ _. row_at) (many_at (λ _. tt {0}) (λ _. row_at) None c.in-Some.count c.in-Some.rest.now) c.in-Some.count c.rows.invariant.0 c.rows.counter c.rows.rest.now c.rows.rows.items c.in-Some-2.row c.in-Some-2.after.now
          c.rows.invariant.1 c.rows-test.true read,
    )

pub returns : goal.returns
unfolding rows_at
returns c =
    rw c.of.ensures (
    items_end u32_at (λ _. tt {0}) (λ _. row_at) c.args.bytes.now c.in-Some.rest.now c.in-Some.count c.rows.invariant.0 c.rows.counter c.rows.rest.now c.rows.rows.items
    c.in-Some.ensures c.rows.invariant.1 c.rows-test.false
    )
