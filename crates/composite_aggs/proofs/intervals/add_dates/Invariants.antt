use Rattle.std.proofs.Common.{◌≡◌, ◌≤◌, length, map, drop}
use Rattle.std.specs.Prelude.{None}
use Rattle.composite_aggs.specs.Composite.{start_keys}
use Rattle.composite_aggs.specs.Kept.{Ascends, added_all, bucket_of}
use Rattle.composite_aggs.proofs.intervals.add_dates.Given as goal

abbrev pub invariant-loop-date : goal.invariant-loop-date
invariant-loop-date l =
    (added_all None 10_001 l.place (start_keys l.interval (drop l.date-index l.dates)) (map bucket_of l.kept.items)
    ≡ added_all None 10_001 l.place (start_keys l.interval l.dates) (map bucket_of l.fn.kept.items))
    × Ascends (map bucket_of l.kept.items)
    × (length l.kept.items ≤ 10_001)
