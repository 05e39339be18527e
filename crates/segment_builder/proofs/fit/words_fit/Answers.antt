use Rattle.std.proofs.Common.{subst, arith, ◌<◌, ◌^◌}
use Rattle.std.specs.List.{All}
use Rattle.std.proofs.lemmas.List.{take_all}
use Rattle.std.proofs.lemmas.List.Elements.{All-more}
use Rattle.segment_builder.proofs.fit.words_fit.Goals as goal

pub words-preserved : goal.words-preserved
words-preserved c =
    All-more (λ word. All (λ position. position < 2 ^ 32) word.positions.items) c.args.words.now c.words.word-index c.word-item.result c.words-test.true c.words.invariant
    (subst (λ word. All (λ position. position < 2 ^ 32) word.positions.items) c.word-item.is (rw c.as_slice.ensures at c.positions_fit.ensures))

pub returns : goal.returns
returns c = subst (All (λ word. All (λ position. position < 2 ^ 32) word.positions.items)) (take_all c.words.word-index c.args.words.now (omega arith)) c.words.invariant
