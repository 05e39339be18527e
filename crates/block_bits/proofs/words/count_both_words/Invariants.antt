use Rattle.std.proofs.Common.{◌≡◌, ◌*◌}
use Rattle.block_bits.proofs.Counts.{set_below}
use Rattle.block_bits.proofs.Shared.{words_of_both}
use Rattle.block_bits.proofs.words.count_both_words.Given as goal

abbrev pub invariant-words : goal.invariant-words
invariant-words l = l.total ≡ set_below (words_of_both l.ones l.others) (64 * l.place)
