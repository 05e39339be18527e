use Rattle.std.proofs.Common.{◌≤◌, length}
use Rattle.store_compact.specs.Moves.{IsLastFrom}
use Rattle.store_compact.proofs.moves.last_before.Given as goal

abbrev pub invariant-places : goal.invariant-places
invariant-places l = IsLastFrom l.place l.prepared.segments l.at l.last × (l.place ≤ length l.prepared.segments)

abbrev pub decreases-places : goal.decreases-places
decreases-places l = l.place
