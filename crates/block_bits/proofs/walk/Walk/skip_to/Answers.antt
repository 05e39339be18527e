use Rattle.std.proofs.Common.{arith}
use Rattle.block_bits.proofs.Walked.{walk_long}
use Rattle.block_bits.proofs.walk.Walk.skip_to.Goals as goal

pub invariant_of-self : goal.invariant_of-self
invariant_of-self c = record {
  tight = c.self.invariant.tight;
  within = omega (arith, c.requires, walk_long _ _ _ c.args.self.now c.self.view_is);
  searched = c.word_from-self-inside.ensures;
}
