use Rattle.std.proofs.Common.{◌+◌, ℕ, refl, ap}
use Rattle.block_bits.proofs.Law.{AnswersRange, answers_range}
use Rattle.block_bits.proofs.scope_bits.ScopeBits.child_range.Goals as goal

after : (c : goal.In-Some) → AnswersRange c.args.self.now c.args.parent c.args.scope (c.in-Some.previous + 1)
after c =
    answers_range c.self.inside.parents.now c.self.inside.bits.now c.args.self.now c.args.parent c.args.scope _ c.index-as_slice-scope.result c.prev_set.result
    record { view = c.self.view_is; nested = c.self.invariant } c.requires.parent c.requires.scope
    (rw c.as_slice.ensures at c.index-as_slice-scope.is) c.prev_set.ensures.value (rw c.in-Some.is refl)

pub returns-in-Some-clause-range : goal.returns-in-Some-clause-range
returns-in-Some-clause-range c = ap (λ (from : ℕ). (from, c.args.parent)) (after c).range

pub returns-in-Some-clause-inside : goal.returns-in-Some-clause-inside
returns-in-Some-clause-inside c = λ doc within above. ((after c).inside doc within above, (after c).back doc within above)

from_0 : (c : goal.In-None) → AnswersRange c.args.self.now c.args.parent c.args.scope 0
from_0 c =
    answers_range c.self.inside.parents.now c.self.inside.bits.now c.args.self.now c.args.parent c.args.scope _ c.index-as_slice-scope.result c.prev_set.result
    record { view = c.self.view_is; nested = c.self.invariant } c.requires.parent c.requires.scope
    (rw c.as_slice.ensures at c.index-as_slice-scope.is) c.prev_set.ensures.value (rw c.in-None.is refl)

pub returns-in-None-clause-range : goal.returns-in-None-clause-range
returns-in-None-clause-range c = ap (λ (from : ℕ). (from, c.args.parent)) (from_0 c).range

pub returns-in-None-clause-inside : goal.returns-in-None-clause-inside
returns-in-None-clause-inside c = λ doc within above. ((from_0 c).inside doc within above, (from_0 c).back doc within above)
