use Rattle.leaf_search.specs.Patterns.{positions_in}
use Rattle.leaf_search.proofs.Taking.{AreApartBelow}
use Rattle.leaf_search.proofs.apart.are_apart.Given as goal

abbrev pub invariant-cursors : goal.invariant-cursors
invariant-cursors l = AreApartBelow (positions_in l.cursors) l.cursor-index l.taken
