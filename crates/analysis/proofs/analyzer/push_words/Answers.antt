use Rattle.std.proofs.Common.{◌∙◌, ap}
use Rattle.unicode_segmentation.specs.Iter.{unicode_words_left}
use Rattle.analysis.proofs.Walk.{none_pushed}
use Rattle.analysis.proofs.analyzer.push_words.Goals as goal

pub words-init : goal.words-init
words-init c =
    let left = ap unicode_words_left c.into_iter-word-iterator.ensures.into_iter_gives ∙ c.unicode_words-word-items.ensures.left in
    (tt, tt, none_pushed _ _ _ _ _ _ left)
