use Rattle.mapping_growth.proofs.Fitting.{none_exceed}
use Rattle.mapping_growth.proofs.bodies.Bodies.read.Goals as goal

pub taken-requires-clause-within : goal.taken-requires-clause-within
taken-requires-clause-within c = rw c.none-none.ensures none_exceed
