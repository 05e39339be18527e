use Rattle.std.proofs.Common.{◌-◌, length}
use Rattle.segment.proofs.Places.{AreListed}
use Rattle.segment.proofs.root_docs.places_of.Given as goal

abbrev pub invariant-places : goal.invariant-places
invariant-places l = AreListed l.places.items l.from l.set

abbrev pub decreases-places : goal.decreases-places
decreases-places l = length l.set - l.from
