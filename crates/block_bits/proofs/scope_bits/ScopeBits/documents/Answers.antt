use Rattle.std.proofs.Common.{length, arith, ap}
use Rattle.block_bits.specs.Blocks.{Nesting}
use Rattle.block_bits.proofs.Scoped.{set_read}
use Rattle.block_bits.proofs.scope_bits.ScopeBits.documents.Goals as goal

pub returns : goal.returns
returns c =
    rw (← c.self.view_is)
    (set_read _ _ _ c.args.scope _ c.self.invariant.scopes.bits_are (omega (arith, c.requires, ap (λ (n : Nesting). length n.parents) c.self.view_is)) (rw c.as_slice.ensures at c.index-as_slice-scope.is))
