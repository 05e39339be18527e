use Rattle.std.proofs.Common.{◌≡◌, ◌≤◌, length, map, drop, []}
use Rattle.std.specs.Prelude.{None}
use Rattle.composite_aggs.specs.Composite.{start_keys}
use Rattle.composite_aggs.specs.Kept.{Ascends, added_rows, bucket_of}
use Rattle.composite_aggs.proofs.intervals.intervals_shown.Given as goal

abbrev pub invariant-loop-place : goal.invariant-loop-place
invariant-loop-place l =
    (added_rows None 10_001 l.place (map (start_keys l.interval) (drop l.place l.rows)) (map bucket_of l.kept.items)
    ≡ added_rows None 10_001 0 (map (start_keys l.interval) l.rows) [])
    × Ascends (map bucket_of l.kept.items)
    × (length l.kept.items ≤ 10_001)
