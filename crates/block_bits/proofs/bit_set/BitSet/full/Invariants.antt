use Rattle.std.proofs.Common.{◌≡◌, length}
use Rattle.block_bits.proofs.Ranges.{AreFull}
use Rattle.block_bits.proofs.bit_set.BitSet.full.Given as goal

abbrev pub invariant-words : goal.invariant-words
invariant-words l = record { long : length l.words.items ≡ l.place; full : AreFull l.words.items l.len }
