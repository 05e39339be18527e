use Rattle.mapping.specs.Mapping.{Mapping}
use Rattle.query_ast.specs.Clause.{match_all}
use Rattle.query_eval.specs.Folds.{leaf_score, whatever}
use Rattle.query_eval.proofs.Tallied.{Counting}
use Rattle.query_eval.proofs.counts.live_count.Given as goal

abbrev pub invariant-entries : goal.invariant-entries
invariant-entries l = (m : Mapping) → Counting m l.entries l.scope (whatever (leaf_score m match_all 1)) l.at l.count
