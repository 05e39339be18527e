use Rattle.std.proofs.Common.{◌≡◌, ◌+◌, drop}
use Rattle.leaf_search.specs.Cursors.{lists_in}
use Rattle.leaf_search.specs.Words.{run_posted}
use Rattle.leaf_search.proofs.conjunction.run_from.Given as goal

abbrev pub invariant-cursors : goal.invariant-cursors
invariant-cursors l =
    (run_posted (lists_in l.cursors) l.doc l.at ≡ run_posted (lists_in (drop l.cursor-index l.cursors)) l.doc l.position)
    × (l.position ≡ l.at + l.cursor-index)
