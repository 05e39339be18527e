use Rattle.unicode_segmentation.specs.Iter.{unicode_words_left}
use Rattle.analysis.proofs.Walk.{ArePushed}
use Rattle.analysis.proofs.analyzer.push_words.Given as goal

abbrev pub invariant-words : goal.invariant-words
invariant-words l =
    (goal.iterator-words).can_next l.word-iterator
    × (goal.iterator-words).is_finite l.word-iterator
    × ArePushed (λ w. w.0.items) (λ w. w.1) l.text l.from l.fn.into.items l.into.items l.number (unicode_words_left l.word-iterator)
