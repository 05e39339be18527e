use Rattle.std.proofs.Common.{take}
use Rattle.segment.specs.Lists.{terms_of}
use Rattle.leaf_search.specs.Words.{AreOrdinals, folded_words}
use Rattle.leaf_search.proofs.ordinals.ordinals_of.Given as goal

abbrev pub invariant-words : goal.invariant-words
invariant-words l = AreOrdinals (terms_of l.segment) l.field (folded_words (take l.word-index l.words)) l.ordinals.items
