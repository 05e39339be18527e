use Rattle.std.proofs.Common.{◌≡◌, map, take}
use Rattle.query_eval.specs.Lent.{lent_scores}
use Rattle.bucket_aggs.proofs.sets.copied.Given as goal

abbrev pub invariant-sets : goal.invariant-sets
invariant-sets l = l.made.items ≡ map lent_scores (take l.at l.sets)
