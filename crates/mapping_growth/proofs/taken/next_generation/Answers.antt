use Rattle.std.proofs.Common.{arith}
use Rattle.mapping_growth.proofs.Fitting.{fit}
use Rattle.mapping_growth.proofs.taken.next_generation.Goals as goal

pub overflow_cast-result : goal.overflow_cast-result
overflow_cast-result c = omega (arith, c.count.ensures, (fit c.args.said.now c.requires).bodies)

pub overflow_add-result : goal.overflow_add-result
overflow_add-result c = omega (arith, c.count.ensures, (fit c.args.said.now c.requires).bodies)
