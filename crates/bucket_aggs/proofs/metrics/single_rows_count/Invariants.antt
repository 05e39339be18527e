use Rattle.std.proofs.Common.{◌≡◌, ◌+◌, ◌≤◌, drop, length}
use Rattle.std.specs.List.{flat_map}
use Rattle.bucket_aggs.proofs.Told.{told}
use Rattle.bucket_aggs.proofs.metrics.single_rows_count.Given as goal

abbrev pub invariant-rows : goal.invariant-rows
invariant-rows g l =
    (l.count ≤ l.at)
    × (l.count + length (flat_map (told l.set 0) (drop l.at l.rows)) ≡ length (flat_map (told l.set 0) l.rows))
