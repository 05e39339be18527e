use Rattle.std.proofs.Common.{◌≡◌, ◌+◌, ◌<◌, ℕ, None, get_or, length}
use Rattle.bucket_aggs.proofs.Ordinals.{one_left}
use Rattle.bucket_aggs.proofs.columns.count_each.Given as goal

abbrev pub invariant-values : goal.invariant-values
invariant-values l =
    (length l.counts.items ≡ length l.fn.counts.items)
    × ((k : ℕ) → k < length l.fn.counts.items → get_or l.counts.items k 0 + one_left (l.first + k) l.before l.values ≡ get_or l.fn.counts.items k 0 + one_left (l.first + k) None l.fn.values)

abbrev pub decreases-values : goal.decreases-values
decreases-values l = length l.values
