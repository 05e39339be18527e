use Rattle.std.proofs.Common.{map, take}
use Rattle.mapping.specs.Mapping.{Mapping}
use Rattle.query_ast.specs.Clause.{match_all}
use Rattle.query_eval.specs.Folds.{leaf_score, whatever}
use Rattle.query_eval.specs.Found.{AreLong}
use Rattle.query_eval.specs.Lent.{lent_scores}
use Rattle.query_eval.proofs.Entries.{Done}
use Rattle.query_eval.proofs.leaves.all_objects.Given as goal

abbrev pub invariant-entries : goal.invariant-entries
invariant-entries l = (m : Mapping) →
    AreLong (take l.at l.entries) (map lent_scores l.sets.items)
    × Done m l.entries l.scope (whatever (leaf_score m match_all 1)) l.at (map lent_scores l.sets.items)
