use Rattle.store_compact.specs.Moves.{IsOffering}
use Rattle.store_compact.proofs.moves.offer_last.Given as goal

abbrev pub invariant-offers : goal.invariant-offers
invariant-offers l = IsOffering l.store l.most l.left l.count l.at l.fn.prepared l.prepared

abbrev pub decreases-offers : goal.decreases-offers
decreases-offers l = l.left
