use Rattle.std.proofs.Common.{arith}
use Rattle.std.proofs.lemmas.List.{take_all}
use Rattle.block_bits.proofs.bit_set.BitSet.next_set.Goals as goal

pub returns-clause-value : goal.returns-clause-value
returns-clause-value c = rw (← take_all c.len.result c.args.self.now (omega (arith, c.len.ensures))) c.next_set_before.ensures.value
