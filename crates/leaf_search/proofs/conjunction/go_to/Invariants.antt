use Rattle.leaf_search.proofs.Going.{AreGoing}
use Rattle.leaf_search.proofs.conjunction.go_to.Given as goal

abbrev pub invariant-cursors : goal.invariant-cursors
invariant-cursors l = AreGoing l.doc l.fn.cursors.items l.cursors.items l.at
