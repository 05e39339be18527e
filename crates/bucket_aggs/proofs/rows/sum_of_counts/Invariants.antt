use Rattle.std.proofs.Common.{◌≡◌, ◌+◌, drop, sum_by}
use Rattle.bucket_aggs.specs.Counts.{count_in}
use Rattle.bucket_aggs.proofs.rows.sum_of_counts.Given as goal

abbrev pub invariant-rows : goal.invariant-rows
invariant-rows l = l.count + sum_by count_in (drop l.row-index l.rows) ≡ sum_by count_in l.fn.rows
