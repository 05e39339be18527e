use Rattle.std.proofs.Common.{arith}
use Rattle.mapping_growth.proofs.Fitting.{fit}
use Rattle.mapping_growth.proofs.bodies.Bodies.count.Goals as goal

pub overflow_cast-result : goal.overflow_cast-result
overflow_cast-result c = omega (arith, c.count.ensures, (fit c.self.inside.said c.self.invariant.limits).bodies)
