use Rattle.std.proofs.Common.{◌≡◌, ℕ, ◌+◌, ◌<◌, ◌≤◌, slice_index}
use Rattle.block_bits.proofs.words.run_word.Given as goal

abbrev pub invariant-run : goal.invariant-run
invariant-run l = l.all ≡ 0 → (place : ℕ) → l.first ≤ place → place < l.first + l.place → slice_index l.words place ≡ 0
