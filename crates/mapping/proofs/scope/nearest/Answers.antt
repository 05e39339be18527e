use Rattle.std.proofs.Common.{arith}
use Rattle.mapping.proofs.Nearest.{nearest_found}
use Rattle.mapping.proofs.scope.nearest.Goals as goal

pub returns : goal.returns
returns c = nearest_found c.args.paths.now c.args.path.now c.paths.found c.paths.at c.paths.above-index (omega (arith, c.paths.auto.above-index-end)) c.paths.invariant.1
