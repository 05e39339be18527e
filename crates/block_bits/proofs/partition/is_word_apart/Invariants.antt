use Rattle.std.proofs.Common.{◌≡◌, ℕ, ◌+◌, ◌*◌, ◌<◌, take}
use Rattle.std.specs.Int.{bit_at}
use Rattle.block_bits.specs.OneScope.{set_count}
use Rattle.block_bits.proofs.partition.is_word_apart.Given as goal

-- a bit of `seen` is the number of sets so far that have its document
abbrev pub invariant-sets : goal.invariant-sets
invariant-sets l = (i : ℕ) → i < 64 → bit_at l.seen i ≡ set_count (take l.set-index l.sets) (64 * l.place + i)
