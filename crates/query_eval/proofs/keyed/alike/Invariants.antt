use Rattle.std.proofs.Common.{◌≡◌, ◌++◌, Some, map}
use Rattle.std.specs.Vec.Iter.{into_iter_items}
use Rattle.block_join.specs.Scores.{filled}
use Rattle.query_eval.proofs.keyed.alike.Given as goal

abbrev pub invariant-sets : goal.invariant-sets
invariant-sets l =
    goal.iterator-sets.can_next l.set-iterator
    × goal.iterator-sets.is_finite l.set-iterator
    × (l.made.items ++ map (filled (Some 1)) (into_iter_items l.set-iterator) ≡ map (filled (Some 1)) l.fn.sets.items)
