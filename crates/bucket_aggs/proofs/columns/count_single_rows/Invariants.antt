use Rattle.std.proofs.Common.{◌≡◌, ◌+◌, ◌<◌, ℕ, count_by, drop, get_or, length, refl}
use Rattle.bucket_aggs.specs.Counts.{has_ordinal}
use Rattle.bucket_aggs.proofs.Rowed.{row_counts}
use Rattle.bucket_aggs.proofs.columns.count_single_rows.Given as goal

abbrev pub invariant-rows : goal.invariant-rows
invariant-rows l =
    (length l.counts.items ≡ length l.fn.counts.items)
    × ((k : ℕ) → k < length l.fn.counts.items
    → get_or l.counts.items k 0 + count_by (row_counts (has_ordinal (l.first + k)) refl l.set) (drop l.at l.rows)
    ≡ get_or l.fn.counts.items k 0 + count_by (row_counts (has_ordinal (l.first + k)) refl l.set) l.rows)
