use Rattle.query_ast.proofs.RowLaws.{meet}
use Rattle.query_ast.proofs.law.pages_meet.Goals as goal

pub returns : goal.returns
returns g c = λ keys number directions. meet keys number directions
