use Rattle.std.proofs.Common.{refl}
use Rattle.block_bits.proofs.Nested.{blocks_from_each, each_more}
use Rattle.block_bits.proofs.blocks.are_blocks.Goals as goal

pub scopes-preserved : goal.scopes-preserved
scopes-preserved c =
    each_more _ _ c.scopes.scope c.scopes.invariant (c.is_enclosed.ensures.0 c.if-not-is_enclosed.false)

pub returns : goal.returns
returns c = (λ _. blocks_from_each _ _ c.scopes.scope c.requires c.scopes-test.false c.scopes.invariant, λ _. refl)
