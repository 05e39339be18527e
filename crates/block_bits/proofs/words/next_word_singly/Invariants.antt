use Rattle.std.proofs.Common.{ℕ, ◌-◌}
use Rattle.block_bits.specs.Walks.{IsSearched}
use Rattle.block_bits.proofs.words.next_word_singly.Given as goal

abbrev pub invariant-words : goal.invariant-words
invariant-words l = (from : ℕ) → IsSearched l.words from l.place l.word → IsSearched l.words from l.at l.left

abbrev pub decreases-words : goal.decreases-words
decreases-words l = l.last - l.at
