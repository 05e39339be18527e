use Rattle.std.proofs.Common.{refl}
use Rattle.segment.specs.Lists.{terms_of}
use Rattle.leaf_search.proofs.Phrased.{misses_word, ordinals_step}
use Rattle.leaf_search.proofs.ordinals.ordinals_of.Goals as goal

pub returns-in_default-clause-missing : goal.returns-in_default-clause-missing
returns-in_default-clause-missing c = λ none.
    misses_word (terms_of c.args.segment.now) c.terms-terms.result c.args.field c.args.words.now c.words.word-index c.word-item.result c.as_slice.result.now
    c.words-test.true c.word-item.is c.as_slice.ensures c.terms-terms.ensures (c.in_default.ensures.missing.0 refl)

pub words-preserved : goal.words-preserved
words-preserved c =
    ordinals_step (terms_of c.args.segment.now) c.terms-terms.result c.args.field c.args.words.now c.words.word-index c.word-item.result c.as_slice.result.now c.words.ordinals.items c.push.new.self.items c.in-Some.ordinal
    c.words-test.true c.word-item.is c.as_slice.ensures c.terms-terms.ensures c.words.invariant c.in-Some.ensures.found c.in_ok-push.ensures.items
