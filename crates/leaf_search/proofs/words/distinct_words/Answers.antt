use Rattle.std.proofs.Common.{List, ap, ◌∙◌}
use Rattle.std.proofs.lemmas.List.{take_all}
use Rattle.analysis.specs.declared.token_list.Token.{Token}
use Rattle.leaf_search.specs.Words.{folded_words}
use Rattle.leaf_search.proofs.Once.{any_of_terms}
use Rattle.leaf_search.proofs.words.distinct_words.Goals as goal

pub returns : goal.returns
returns c =
    any_of_terms c.words.lent.items c.distinct.result.items (folded_words c.args.words.now) c.distinct.ensures
    (c.words.invariant ∙ ap (λ (ts : List Token). folded_words ts) (take_all c.words.word-index c.args.words.now c.words-test.false))
