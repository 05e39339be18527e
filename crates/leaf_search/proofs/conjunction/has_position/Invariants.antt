use Rattle.std.proofs.Common.{◌-◌}
use Rattle.postings.specs.Postings.{present_positions}
use Rattle.leaf_search.proofs.Halving.{IsCut}
use Rattle.leaf_search.proofs.conjunction.has_position.Given as goal

abbrev pub invariant-halves : goal.invariant-halves
invariant-halves l = IsCut (present_positions l.cursor) l.position l.first l.end

abbrev pub decreases-halves : goal.decreases-halves
decreases-halves l = l.end - l.first
