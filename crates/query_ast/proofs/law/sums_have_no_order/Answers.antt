use Rattle.query_ast.proofs.HitLaws.{steps}
use Rattle.query_ast.proofs.law.sums_have_no_order.Goals as goal

pub returns-clause-steps : goal.returns-clause-steps
returns-clause-steps c = steps
