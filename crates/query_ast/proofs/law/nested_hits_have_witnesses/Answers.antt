use Rattle.tree_objects.specs.Object.{below}
use Rattle.query_ast.specs.Hit.{hit}
use Rattle.query_ast.proofs.HitLaws.{witness, some_hit}
use Rattle.query_ast.proofs.law.nested_hits_have_witnesses.Goals as goal

pub returns-clause-witness : goal.returns-clause-witness
returns-clause-witness c = λ m live scope clause mode o some. witness (hit m live clause) mode (below m o scope) some

pub returns-clause-hit : goal.returns-clause-hit
returns-clause-hit c = λ m live scope clause mode o inside has some. some_hit (hit m live clause) mode (below m o scope) inside has some
