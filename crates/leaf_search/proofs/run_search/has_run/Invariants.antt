use Rattle.postings.specs.Postings.{present_positions}
use Rattle.leaf_search.specs.Patterns.{positions_in}
use Rattle.leaf_search.proofs.Running.{AreSearched}
use Rattle.leaf_search.proofs.run_search.has_run.Given as goal

abbrev pub invariant-positions : goal.invariant-positions
invariant-positions l = AreSearched (positions_in l.cursors) l.words (present_positions l.first) l.start l.count l.i
