use Rattle.std.proofs.Common.{◌≡◌}
use Rattle.block_bits.specs.Flags.{flags, IsTight}
use Rattle.block_bits.proofs.Ranges.{IsClearedTo}
use Rattle.block_bits.proofs.bit_set.BitSet.clear_range.Given as goal

abbrev pub invariant-words : goal.invariant-words
invariant-words l = record {
  so_far : IsClearedTo l.from l.end l.initial.self-inside.words.items l.self-inside.words.items l.place;
  same_len : l.self-inside.len ≡ l.initial.self-inside.len;
  view : flags l.initial.self-inside.words.items l.initial.self-inside.len ≡ l.fn.self;
  tight : IsTight l.initial.self-inside.words.items l.initial.self-inside.len;
}
