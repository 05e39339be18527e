use Rattle.std.proofs.Common.{arith}
use Rattle.block_bits.proofs.Walked.{walk_long}
use Rattle.block_bits.proofs.walk.Walk.from.Goals as goal

pub returns-clause-within : goal.returns-clause-within
returns-clause-within c = omega (arith, c.self.invariant.within, walk_long _ _ _ c.args.self.now c.self.view_is)
