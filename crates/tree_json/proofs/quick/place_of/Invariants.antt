use Rattle.std.proofs.Common.{◌-◌, ◌≤◌, length}
use Rattle.tree_json.proofs.Insertion.{IsPast}
use Rattle.tree_json.proofs.quick.place_of.Given as goal

abbrev pub invariant-places : goal.invariant-places
invariant-places l = (l.place ≤ length l.members) × IsPast l.members l.name l.place

abbrev pub decreases-places : goal.decreases-places
decreases-places l = length l.members - l.place
