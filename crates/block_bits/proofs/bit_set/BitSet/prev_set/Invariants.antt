use Rattle.block_bits.proofs.Search.{IsSearchedDown}
use Rattle.block_bits.proofs.bit_set.BitSet.prev_set.Given as goal

abbrev pub invariant-words : goal.invariant-words
invariant-words l = IsSearchedDown l.self-inside.words.items l.last l.place l.word

abbrev pub decreases-words : goal.decreases-words
decreases-words l = l.place
