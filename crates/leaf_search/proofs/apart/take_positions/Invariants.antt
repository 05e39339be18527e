use Rattle.postings.specs.Postings.{present_positions}
use Rattle.leaf_search.proofs.Taking.{AreTaking}
use Rattle.leaf_search.proofs.apart.take_positions.Given as goal

abbrev pub invariant-positions : goal.invariant-positions
invariant-positions l = AreTaking (present_positions l.cursor) l.i l.fn.taken l.taken
