use Rattle.query_ast.specs.Clause.{leaf, match_all}
use Rattle.query_eval.specs.Found.{score_by}
use Rattle.bucket_aggs.proofs.objects.alike.Goals as goal

pub returns-clause-seen : goal.returns-clause-seen
returns-clause-seen c = λ given is. c.in_ok-merges.ensures.seen c.args.mapping.now c.args.scope (score_by c.args.mapping.now (leaf match_all 1)) given c.in_ok-all.ensures is
