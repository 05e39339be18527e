use Rattle.std.proofs.Common.{arith, rules}
use Rattle.block_bits.proofs.Marks.{flags-zeros, IsTight-zeros}
use Rattle.block_bits.proofs.bit_set.BitSet.empty.Goals as goal

pub invariant_of-result : goal.invariant_of-result
invariant_of-result c = rw c.in_ok-words.ensures (IsTight-zeros _ c.args.len (search rules) (omega (arith, c.div_ceil.ensures)))

pub returns : goal.returns
returns c = rw c.in_ok-words.ensures (flags-zeros _ c.args.len)
