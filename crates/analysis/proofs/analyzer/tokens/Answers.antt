use Rattle.std.proofs.Common.{◌∙◌, ◌≡◌, ap, refl}
use Rattle.unicode_segmentation.specs.Iter.{unicode_word_indices_left}
use Rattle.analysis.proofs.Placed.{placed_words}
use Rattle.analysis.proofs.TokenLemmas.{tokens_from, words_of_tokens, places_of_tokens, tokens_are_apart, positions_of_tokens, few_tokens}
use Rattle.analysis.proofs.Walk.{started, one_more, ended}
use Rattle.analysis.proofs.analyzer.tokens.Goals as goal

pub loop-from-init : goal.loop-from-init
unfolding placed_words
loop-from-init c =
    let left = ap unicode_word_indices_left c.into_iter-from-iterator.ensures.into_iter_gives
    ∙ c.unicode_word_indices-from-items.ensures.left in
    (tt, tt, rw c.new-tokens.ensures.items (started c.args.text.now _ c.utf8.text left))

pub loop-from-preserved : goal.loop-from-preserved
loop-from-preserved c =
    let way = c.loop-from.invariant.2 in
    (tt, tt, rw c.in_ok-push.ensures.items (one_more _ _ _ _ _ _ _ c.in-Some.ensures.steps way (rw c.in_ok-folded.ensures refl)))

-- at the end all words have been passed
made : (c : goal.After-of) → c.of.result ≡ tokens_from 0 (placed_words c.args.text.now)
made c = c.of.ensures ∙ ended _ _ _ _ c.in-None.ensures.steps.0 c.loop-from.invariant.2

pub returns-clause-words : goal.returns-clause-words
returns-clause-words c = words_of_tokens _ _ (made c)

pub returns-clause-places : goal.returns-clause-places
returns-clause-places c = places_of_tokens _ _ c.utf8.text (made c)

pub returns-clause-apart : goal.returns-clause-apart
returns-clause-apart c = tokens_are_apart _ _ c.utf8.text (made c)

pub returns-clause-positions : goal.returns-clause-positions
returns-clause-positions c = positions_of_tokens _ _ (made c)

pub returns-clause-few : goal.returns-clause-few
returns-clause-few c = few_tokens _ _ c.utf8.text (made c)
