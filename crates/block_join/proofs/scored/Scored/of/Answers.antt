use Rattle.block_join.proofs.Shown.{kept_each}
use Rattle.block_join.proofs.scored.Scored.of.Goals as goal

pub invariant_of-result : goal.invariant_of-result
invariant_of-result c = kept_each c.args.set c.args.scores c.in-Each.scores c.in-Each.is c.requires
