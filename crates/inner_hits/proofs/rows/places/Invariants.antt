use Rattle.inner_hits.specs.Rows.{ArePlaces}
use Rattle.inner_hits.proofs.rows.places.Given as goal

abbrev pub invariant-hits : goal.invariant-hits
invariant-hits l = ArePlaces l.view l.hits l.at l.places.items
