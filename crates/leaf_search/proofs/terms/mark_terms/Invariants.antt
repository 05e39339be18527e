use Rattle.std.proofs.Common.{take}
use Rattle.leaf_search.specs.Sets.{Gains}
use Rattle.leaf_search.specs.Words.{shows_some}
use Rattle.leaf_search.proofs.Once.{lent_words}
use Rattle.leaf_search.proofs.terms.mark_terms.Given as goal

abbrev pub invariant-terms : goal.invariant-terms
invariant-terms l = Gains l.segment (shows_some l.field (lent_words (take l.term-index l.terms))) l.fn.set l.set
