use Rattle.std.proofs.Common.{◌∙◌, ◌-◌, ◌≤◌, None, Some, length, refl, arith}
use Rattle.part_text.specs.Reading.{IsKeyed}
use Rattle.part_text.specs.Reads.{IsBytes}
use Rattle.part_text.specs.Walks.{walked_none}
use Rattle.part_text.specs.Placed.{placing_start, placing_more, placing_end, placing_within}
use Rattle.stored_sources.specs.Text.{root_text}
use Rattle.stored_sources.specs.Lent.{lent_root}
use Rattle.stored_sources.specs.Reading.{root_at, roots_at, root_reads, MayRoot}
use Rattle.stored_sources.proofs.placing.placed_roots.Goals as goal

pub roots-init : goal.roots-init
unfolding roots_at
roots-init c = (None, placing_start (λ _. tt {0}) root_text (λ _. root_at) c.args.count c.args.bytes.now (c.args.end - length c.args.bytes.now) c.reserve.new.self (c.in_ok-reserve.ensures ∙ c.in_ok-places.ensures))

pub returns-in_default-clause-none : goal.returns-in_default-clause-none
returns-in_default-clause-none c = λ _.
    walked_none (λ _. tt {0}) (λ _. root_at) (roots_at c.args.count c.args.bytes.now) c.args.count c.roots.invariant.0 c.roots.counter c.roots.rest.now
    c.roots.invariant.1.walk c.roots-test.true c.in_default.ensures

pub overflow_sub-end-in-roots : goal.overflow_sub-end-in-roots
overflow_sub-end-in-roots c =
    let bytes : IsBytes c.args.bytes.now = λ i. omega (arith, c.type_inv.bytes i) in
    let read : IsKeyed (λ _. tt {0}) (root_at c.roots.rest.now) tt c.in-Some.after.now = record { item = lent_root c.in-Some.field-0-0; is = c.in-Some.ensures; named = refl } in
    let within : length c.in-Some.after.now ≤ length c.args.bytes.now =
    placing_within (λ _. tt {0}) root_text MayRoot (λ _. root_at) (roots_at c.args.count c.args.bytes.now) c.args.count c.args.bytes.now (c.args.end - length c.args.bytes.now) c.roots.invariant.0 c.roots.counter c.roots.rest.now c.roots.places tt c.in-Some.after.now
    root_reads bytes c.roots.invariant.1 read in
    omega (arith, within, c.requires)

pub roots-preserved : goal.roots-preserved
roots-preserved c =
    let bytes : IsBytes c.args.bytes.now = λ i. omega (arith, c.type_inv.bytes i) in
    let read : IsKeyed (λ _. tt {0}) (root_at c.roots.rest.now) tt c.in-Some.after.now = record { item = lent_root c.in-Some.field-0-0; is = c.in-Some.ensures; named = refl } in
    let within : length c.in-Some.after.now ≤ length c.args.bytes.now =
    placing_within (λ _. tt {0}) root_text MayRoot (λ _. root_at) (roots_at c.args.count c.args.bytes.now) c.args.count c.args.bytes.now (c.args.end - length c.args.bytes.now) c.roots.invariant.0 c.roots.counter c.roots.rest.now c.roots.places tt c.in-Some.after.now
    root_reads bytes c.roots.invariant.1 read in
    rw c.in_ok-push.ensures.pushed (
      Some tt,
      placing_more (λ _. tt {0}) root_text MayRoot (λ _. root_at) (roots_at c.args.count c.args.bytes.now) c.args.count c.args.bytes.now (c.args.end - length c.args.bytes.now) c.roots.invariant.0 c.roots.counter c.roots.rest.now c.roots.places tt c.in-Some.after.now (c.args.end - length c.in-Some.after.now)
          root_reads bytes c.roots.invariant.1 c.roots-test.true read (omega (arith, within, c.requires)),
    )

pub returns-clause-roots : goal.returns-clause-roots
unfolding roots_at
returns-clause-roots c =
    placing_end (λ _. tt {0}) root_text (λ _. root_at) c.args.count c.args.bytes.now (c.args.end - length c.args.bytes.now) c.roots.invariant.0 c.roots.counter c.roots.rest.now c.roots.places c.roots.invariant.1 c.roots-test.false
