use Rattle.std.proofs.Common.{◌≡◌, ◌*◌}
use Rattle.block_bits.proofs.Counts.{set_below}
use Rattle.block_bits.proofs.bit_set.BitSet.count.Given as goal

abbrev pub invariant-words : goal.invariant-words
invariant-words l = l.total ≡ set_below l.word-items (64 * l.word-index)
