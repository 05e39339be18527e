use Rattle.std.proofs.Common.{◌+◌, sym, arith, ◌∙◌}
use Rattle.std.proofs.lemmas.Bool.{true≢false}
use Rattle.block_bits.proofs.Nested.{found_in_set, none_in_set, not_enclosed, passed_over, encloses}
use Rattle.block_bits.proofs.blocks.enclosing_at.Goals as goal

pub returns-in_err-at-clause-none : goal.returns-in_err-at-clause-none
returns-in_err-at-clause-none c =
    let none = none_in_set _ _ _ c.args.outer (c.args.doc + 1) _ c.requires.scopes.bits_are c.requires.outer c.index-sets-outer.is c.in_err-at.ensures.value in
    rw c.from_residual.ensures (not_enclosed _ _ c.args.outer c.args.doc none)

pub has_above-requires-clause-end : goal.has_above-requires-clause-end
has_above-requires-clause-end c =
    let next = found_in_set _ _ _ c.args.outer (c.args.doc + 1) c.in_ok-at.at _ c.requires.scopes.bits_are c.requires.outer c.index-sets-outer.is c.in_ok-at.ensures.value in
    omega (arith, next.high)

pub returns-then-has_above-clause-none : goal.returns-then-has_above-clause-none
returns-then-has_above-clause-none c =
    let next = found_in_set _ _ _ c.args.outer (c.args.doc + 1) c.in_ok-at.at _ c.requires.scopes.bits_are c.requires.outer c.index-sets-outer.is c.in_ok-at.ensures.value in
    let above = c.has_above.ensures.0 c.if-has_above.true in
    passed_over _ _ c.args.outer c.args.doc c.in_ok-at.at above.0 next above.1 above.2 above.3

pub returns-else-has_above-clause-at : goal.returns-else-has_above-clause-at
returns-else-has_above-clause-at c =
    let next = found_in_set _ _ _ c.args.outer (c.args.doc + 1) c.in_ok-at.at _ c.requires.scopes.bits_are c.requires.outer c.index-sets-outer.is c.in_ok-at.ensures.value in
    encloses _ _ c.args.outer c.args.doc c.in_ok-at.at next
    (λ between low high above. true≢false (sym (c.has_above.ensures.1 (between, low, high, above)) ∙ c.if-has_above.false))
