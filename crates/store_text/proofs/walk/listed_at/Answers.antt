use Rattle.std.proofs.Common.{Some, None}
use Rattle.part_text.specs.Reading.{string_at, many_at}
use Rattle.store_text.specs.Reading.{count_at, listed_at}
use Rattle.store_text.proofs.Items.{no_number, items_none, items_more, items_end}
use Rattle.store_text.proofs.walk.listed_at.Goals as goal

pub returns-in_default : goal.returns-in_default
unfolding listed_at
returns-in_default c = no_number count_at (λ _. tt {0}) (λ _. string_at) c.args.bytes.now c.in_default.ensures

pub returns-in_default-2 : goal.returns-in_default-2
unfolding listed_at
returns-in_default-2 c =
    let none = rw c.in_default-2.is at c.in_ok-body.ensures in
    items_none count_at (λ _. tt {0}) (λ _. string_at) c.args.bytes.now c.in-Some.rest.now c.in-Some.count c.bodies.invariant.0 c.bodies.counter c.bodies.rest.now c.bodies.bodies.items
    c.in-Some.ensures c.bodies.invariant.1 c.bodies-test.true none

pub bodies-preserved : goal.bodies-preserved
bodies-preserved c =
    let read = rw c.in-Some-2.is at c.in_ok-body.ensures in
    rw c.in_ok-push.ensures.items (
      Some tt,
      items_more (λ _. tt {0}) (λ _. string_at) (many_at (λ _. tt {0}) (λ _. string_at) None c.in-Some.count c.in-Some.rest.now) c.in-Some.count c.bodies.invariant.0 c.bodies.counter c.bodies.rest.now c.bodies.bodies.items c.in-Some-2.body c.in-Some-2.after.now
          c.bodies.invariant.1 c.bodies-test.true read,
    )

pub returns : goal.returns
unfolding listed_at
returns c =
    rw c.of.ensures (
    items_end count_at (λ _. tt {0}) (λ _. string_at) c.args.bytes.now c.in-Some.rest.now c.in-Some.count c.bodies.invariant.0 c.bodies.counter c.bodies.rest.now c.bodies.bodies.items
    c.in-Some.ensures c.bodies.invariant.1 c.bodies-test.false
    )
