use Rattle.std.proofs.Common.{◌≡◌, ℕ, ◌<◌, ◌≤◌, ◌∷◌, ◌+◌, length, drop, ◌∙◌, arith, refl}
use Rattle.index_core.specs.Found.{root_numbers}
use Rattle.store_opening.proofs.Owned.{number_next, ascends_on, ascends_low, ascends_high, all_ascended}
use Rattle.store_opening.proofs.blocks.ascending_to.Goals as goal

pub roots-preserved : goal.roots-preserved
roots-preserved c = λ more.
    ascends_on (root_numbers c.args.segment.now) more c.roots.root c.root_number-number.result c.roots.least c.args.next
    (number_next c.args.segment.now.roots c.roots.root c.root_number-number.result (grind (arith, c.roots-test.true, c.roots-root-end.ensures.roots)) c.root_number-number.ensures)
    (grind (arith, c.if-number-least.false)) (grind (arith, c.if-number-next.false))
    ∙ c.roots.invariant more

pub returns-then-number-least : goal.returns-then-number-least
returns-then-number-least c = λ more.
    ascends_low (root_numbers c.args.segment.now) more c.roots.root c.root_number-number.result c.roots.least c.args.next
    (number_next c.args.segment.now.roots c.roots.root c.root_number-number.result (grind (arith, c.roots-test.true, c.roots-root-end.ensures.roots)) c.root_number-number.ensures)
    (grind (arith, c.if-number-least.true))
    ∙ c.roots.invariant more

pub returns-then-number-next : goal.returns-then-number-next
returns-then-number-next c = λ more.
    ascends_high (root_numbers c.args.segment.now) more c.roots.root c.root_number-number.result c.roots.least c.args.next
    (number_next c.args.segment.now.roots c.roots.root c.root_number-number.result (grind (arith, c.roots-test.true, c.roots-root-end.ensures.roots)) c.root_number-number.ensures)
    (grind (arith, c.if-number-least.false)) (grind (arith, c.if-number-next.true))
    ∙ c.roots.invariant more

pub returns : goal.returns
returns c = λ more.
    all_ascended c.args.segment.now.roots more c.roots.root c.roots.least c.args.next (grind (arith, c.roots-test.false, c.roots-root-end.ensures.roots)) ∙ c.roots.invariant more
