use Rattle.query_ast.proofs.Everything.{everything_found}
use Rattle.query_ast.proofs.law.everything_is_found_in_order.Goals as goal

pub returns : goal.returns
returns c = everything_found
