use Rattle.unicode_segmentation.specs.Iter.{unicode_word_indices_left}
use Rattle.analysis.proofs.Walk.{IsUnderWay}
use Rattle.analysis.proofs.analyzer.tokens.Given as goal

abbrev pub invariant-loop-from : goal.invariant-loop-from
invariant-loop-from l =
    (goal.iterator-loop-from).can_next l.from-iterator
    × (goal.iterator-loop-from).is_finite l.from-iterator
    × IsUnderWay l.text l.tokens.items l.position (unicode_word_indices_left l.from-iterator)
