use Rattle.std.proofs.Common.{◌≡◌, ◌-◌, ◌++◌, drop, length}
use Rattle.segment_parts.specs.Text.{marked_places}
use Rattle.segment_merge.proofs.marks.places_of.Given as goal

abbrev pub invariant-places : goal.invariant-places
invariant-places l = l.places.items ++ marked_places l.from (drop l.from l.set) ≡ marked_places 0 l.set

abbrev pub decreases-places : goal.decreases-places
decreases-places l = length l.set - l.from
