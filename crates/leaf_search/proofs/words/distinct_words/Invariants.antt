use Rattle.std.proofs.Common.{◌≡◌, take}
use Rattle.leaf_search.specs.Words.{folded_words}
use Rattle.leaf_search.proofs.Once.{lent_words}
use Rattle.leaf_search.proofs.words.distinct_words.Given as goal

abbrev pub invariant-words : goal.invariant-words
invariant-words l = lent_words l.lent.items ≡ folded_words (take l.word-index l.words)
