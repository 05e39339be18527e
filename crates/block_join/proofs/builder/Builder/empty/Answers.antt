use Rattle.std.proofs.Common.{arith}
use Rattle.block_join.proofs.Built.{begun_empty}
use Rattle.block_join.proofs.builder.Builder.empty.Goals as goal

pub invariant_of-result : goal.invariant_of-result
invariant_of-result c = rw c.in_ok-set.ensures (begun_empty c.args.len (omega (arith, c.ranges.len.fits)))
