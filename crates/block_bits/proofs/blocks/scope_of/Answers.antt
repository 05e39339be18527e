use Rattle.std.proofs.Common.{◌≢◌, length, arith, sym, ap, ◌∙◌}
use Rattle.std.proofs.lemmas.Bool.{eqb-true, eqb-false}
use Rattle.block_bits.specs.Blocks.{scope_at}
use Rattle.block_bits.specs.Seen.{scopes_seen}
use Rattle.block_bits.proofs.Scoped.{has_answer, set_long}
use Rattle.block_bits.proofs.blocks.scope_of.Goals as goal

pub has-requires : goal.has-requires
has-requires c =
    omega (arith, c.requires.doc, ap length c.index-sets-scope.is, set_long _ _ _ c.scopes.scope c.index-sets-scope.result c.requires.bits c.scopes-test.true)

pub returns-then-has : goal.returns-then-has
returns-then-has c =
    let here = has_answer _ _ _ c.scopes.scope c.args.doc _ _ c.requires.bits c.scopes-test.true c.requires.doc c.index-sets-scope.is c.has.ensures in
    sym (eqb-true _ _ (sym here ∙ c.if-has.true))

pub scopes-preserved : goal.scopes-preserved
scopes-preserved c =
    let here = has_answer _ _ _ c.scopes.scope c.args.doc _ _ c.requires.bits c.scopes-test.true c.requires.doc c.index-sets-scope.is c.has.ensures in
    let other : scope_at (scopes_seen c.args.sets.now) c.args.doc ≢ c.scopes.scope = eqb-false _ _ (sym here ∙ c.if-has.false) in
    omega (arith, c.scopes.invariant)
