use Rattle.std.proofs.Common.{◌-◌, length, take, drop, ◌∙◌, arith}
use Rattle.store_opening.specs.Read.{IsFirst}
use Rattle.store_opening.proofs.Grown.{bodies_are, none_of, some_of, first_none, grows_start, grows_none, grows_end}
use Rattle.store_opening.proofs.bodies.mapping_of_bodies.Goals as goal

pub returns-in_default-2-clause-none : goal.returns-in_default-2-clause-none
returns-in_default-2-clause-none c = λ none m it.
    first_none c.args.bodies.now c.as_slice.result.now (take (length c.args.bodies.now - 1) (drop 1 c.args.bodies.now)) m c.args.dynamic
    (bodies_are c.args.bodies.now c.first-item.result c.as_slice.result.now c.in-len1-up.len_at_least c.as_slice.ensures c.first-item.is)
    (c.in_ok-mapping.ensures.none (none_of c.in_ok-mapping.field-0 c.in_default-2.is)) it

pub bodies-init : goal.bodies-init
bodies-init c =
    grows_start c.args.bodies.now c.as_slice.result.now (take (length c.args.bodies.now - 1) (drop 1 c.args.bodies.now)) c.in-Some.mapping
    (bodies_are c.args.bodies.now c.first-item.result c.as_slice.result.now c.in-len1-up.len_at_least c.as_slice.ensures c.first-item.is)
    (some_of (IsFirst c.as_slice.result.now) c.in_ok-mapping.field-0 c.in-Some.mapping c.in-Some.is c.in_ok-mapping.ensures.mapping)

pub returns-in_default-3-clause-none : goal.returns-in_default-3-clause-none
returns-in_default-3-clause-none c = λ none m it.
    grows_none c.args.bodies.now (take (length c.args.bodies.now - 1) (drop 1 c.args.bodies.now)) c.bodies.body-index c.body-item.result
    c.as_slice-in-bodies.result.now c.bodies.mapping m c.args.dynamic c.bodies-test.true (c.as_slice-in-bodies.ensures ∙ c.body-item.is)
    c.bodies.invariant (c.in_ok-grown.ensures.none (none_of c.in_ok-grown.field-0 c.in_default-3.is)) it

pub returns-clause-mapping : goal.returns-clause-mapping
returns-clause-mapping c =
    grows_end c.args.bodies.now (take (length c.args.bodies.now - 1) (drop 1 c.args.bodies.now)) c.bodies.body-index c.bodies.mapping
    c.set_dynamic.new.self c.args.dynamic (omega (arith, c.bodies-test.false)) c.bodies.invariant c.set_dynamic.ensures
