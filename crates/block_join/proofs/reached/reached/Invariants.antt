use Rattle.std.proofs.Common.{◌≡◌, ◌*◌, ◌≤◌, false, length, map}
use Rattle.std.specs.List.{range_with_len}
use Rattle.block_bits.specs.Words.{word_at}
use Rattle.block_join.specs.Kept.{reached}
use Rattle.block_join.proofs.Reaching.{before}
use Rattle.block_join.proofs.reached.reached.Given as goal

abbrev pub invariant-words : goal.invariant-words
invariant-words l = (l.words.items ≡ map (word_at (reached false l.parents l.others)) (range_with_len 0 l.at)) × (64 * l.at ≤ length l.parents → l.some ≡ before l.parents l.others l.at)
