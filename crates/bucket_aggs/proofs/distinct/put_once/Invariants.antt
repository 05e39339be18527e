use Rattle.std.proofs.Common.{◌≡◌, ◌++◌, length}
use Rattle.std.specs.Ordering.{is_eq}
use Rattle.bucket_aggs.specs.Counts.{once_after, once_by}
use Rattle.bucket_aggs.proofs.distinct.put_once.Given as goal

abbrev pub invariant-values : goal.invariant-values
invariant-values g l = l.made.items ++ once_after (λ a b. is_eq (g.T.Ord.cmp a b)) l.before l.values ≡ l.fn.made.items ++ once_by g.T.Ord.cmp l.fn.values

abbrev pub decreases-values : goal.decreases-values
decreases-values g l = length l.values
