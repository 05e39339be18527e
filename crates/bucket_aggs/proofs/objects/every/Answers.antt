use Rattle.std.proofs.Common.{sym, subst}
use Rattle.query_ast.specs.Clause.{leaf, match_all}
use Rattle.query_eval.specs.Found.{IsFound}
use Rattle.bucket_aggs.proofs.objects.every.Goals as goal

pub returns : goal.returns
returns c = λ m. subst (IsFound m c.args.entries.now c.args.scope (leaf match_all 1)) (sym c.of_sets.ensures) (c.in_ok-sets.ensures m)
