use Rattle.std.proofs.Common.{sym, drop, option_map, ◌+◌, arith}
use Rattle.flattener.specs.Walked.{names_left}
use Rattle.tree_json.specs.Value.{elements_of, members_of}
use Rattle.tree_json.specs.View.{values, view}
use Rattle.inner_hits.proofs.Counting.{counted_without, found_here, goes_on, next_in, none_in}
use Rattle.inner_hits.proofs.along.+along.Goals as goal

pub counted_below-returns-in-None : goal.counted_below-returns-in-None
counted_below-returns-in-None t c = counted_without (members_of c.args.within.now) c.args.path.now c.args.left.now (rw c.first_name.ensures.name at (sym c.in-None.ensures))

pub counted_in-returns-in-Some : goal.counted_in-returns-in-Some
counted_in-returns-in-Some t c =
    let names = names_left (option_map (λ p. p.now) c.args.path) in
    let all = elements_of (values c.args.elements.now) in
    found_here names all c.args.left.now (view c.element-item.result) (elements_of (values (drop (c.elements.element-index + 1) c.args.elements.now))) c.elements.left c.counted.new.left c.counted.new.left (view c.in-Some.found.now)
    (next_in names all c.args.elements.now c.elements.element-index c.element-item.result c.args.left.now c.elements.left c.elements-test.true c.element-item.is c.elements.invariant)
    c.in-Some.ensures

pub counted_in-elements-preserved : goal.counted_in-elements-preserved
counted_in-elements-preserved t c =
    let names = names_left (option_map (λ p. p.now) c.args.path) in
    let all = elements_of (values c.args.elements.now) in
    goes_on names all c.args.left.now (view c.element-item.result) (elements_of (values (drop (c.elements.element-index + 1) c.args.elements.now))) c.elements.left c.counted.new.left
    (next_in names all c.args.elements.now c.elements.element-index c.element-item.result c.args.left.now c.elements.left c.elements-test.true c.element-item.is c.elements.invariant)
    c.in-None.ensures

pub counted_in-returns : goal.counted_in-returns
counted_in-returns t c =
    let names = names_left (option_map (λ p. p.now) c.args.path) in
    let all = elements_of (values c.args.elements.now) in
    none_in names all c.args.elements.now c.elements.element-index c.args.left.now c.elements.left (omega (arith, c.elements-test.false)) c.elements.invariant
