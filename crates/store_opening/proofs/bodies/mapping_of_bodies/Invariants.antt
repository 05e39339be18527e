use Rattle.std.proofs.Common.{drop}
use Rattle.store_opening.proofs.Grown.{Grows}
use Rattle.store_opening.proofs.bodies.mapping_of_bodies.Given as goal

abbrev pub invariant-bodies : goal.invariant-bodies
invariant-bodies l = Grows l.bodies (drop l.body-index l.rest) l.mapping
