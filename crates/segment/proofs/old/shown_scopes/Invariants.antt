use Rattle.segment.proofs.Shown.{IsEmptyFrom}
use Rattle.segment.proofs.old.shown_scopes.Given as goal

abbrev pub invariant-sets : goal.invariant-sets
invariant-sets l = IsEmptyFrom l.sets l.count

abbrev pub decreases-sets : goal.decreases-sets
decreases-sets l = l.count
