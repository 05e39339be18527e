use Rattle.query_ast.proofs.HitLaws.{alone}
use Rattle.query_ast.proofs.law.joins_alone_look_at_other_trees.Goals as goal

pub returns : goal.returns
returns c = λ m live others clause o. alone m live others clause o
