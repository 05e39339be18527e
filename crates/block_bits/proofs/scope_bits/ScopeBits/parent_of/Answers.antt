use Rattle.std.proofs.Common.{◌≡◌, true, sym, ◌∙◌, arith}
use Rattle.block_bits.specs.Scopes.{is_above}
use Rattle.block_bits.specs.Blocks.{scope_at}
use Rattle.block_bits.specs.Seen.{scopes_seen}
use Rattle.block_bits.proofs.Above.{above_lt}
use Rattle.block_bits.proofs.Law.{AnswersParent, answers_parent}
use Rattle.block_bits.proofs.scope_bits.ScopeBits.parent_of.Goals as goal

-- the test that led here, by the fields
above : (c : goal.Then-lies_above) → is_above c.self.inside.parents.now c.args.scope (scope_at (scopes_seen c.self.inside.bits.now) c.args.doc) ≡ true
above c = rw (← c.as_slice.ensures, ← c.as_slice-sets.ensures, ← c.scope_of.ensures) (sym c.lies_above.ensures ∙ c.if-lies_above.true)

pub bounds-sets-scope : goal.bounds-sets-scope
bounds-sets-scope c =
    let lower = above_lt c.self.inside.parents.now c.args.scope _ c.self.invariant.scopes.tree (above c) in
    rw c.as_slice-sets.ensures (omega (arith, lower, c.self.invariant.scopes.long))

answers : (c : goal.After-next_set) → AnswersParent c.args.self.now c.args.doc c.args.scope c.next_set.result
answers c =
    answers_parent c.self.inside.parents.now c.self.inside.bits.now c.args.self.now c.args.doc c.args.scope c.index-sets-scope.result c.next_set.result
    record { view = c.self.view_is; nested = c.self.invariant } c.requires
    (rw (← c.as_slice.ensures, ← c.as_slice-sets.ensures, ← c.scope_of.ensures) (sym c.lies_above.ensures ∙ c.if-lies_above.true))
    (rw c.as_slice-sets.ensures at c.index-sets-scope.is) c.next_set.ensures.value

pub returns-then-lies_above-clause-value : goal.returns-then-lies_above-clause-value
returns-then-lies_above-clause-value c = (answers c).value

pub returns-then-lies_above-clause-enclosed : goal.returns-then-lies_above-clause-enclosed
returns-then-lies_above-clause-enclosed c = (λ _. (answers c).above, λ _. (answers c).some)

pub returns-then-lies_above-clause-later : goal.returns-then-lies_above-clause-later
returns-then-lies_above-clause-later c = (answers c).later

pub returns-then-lies_above-clause-of_scope : goal.returns-then-lies_above-clause-of_scope
returns-then-lies_above-clause-of_scope c = (answers c).of_scope
