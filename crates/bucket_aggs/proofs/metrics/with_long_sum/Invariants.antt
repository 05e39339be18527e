use Rattle.std.proofs.Common.{◌≡◌, ◌++◌, ◌-◌, ◌^◌, ℤ, List, drop}
use Rattle.std.specs.List.{flat_map}
use Rattle.bucket_aggs.specs.Sums.{HasRoom, IsAdded}
use Rattle.bucket_aggs.proofs.Told.{told}
use Rattle.bucket_aggs.proofs.metrics.with_long_sum.Given as goal

abbrev pub invariant-rows : goal.invariant-rows
invariant-rows l =
    HasRoom (2 ^ 32 - 1 - l.at) l.sums
    × ((done : List ℤ) × IsAdded l.fn.start done l.sums × (done ++ flat_map (told l.set 0) (drop l.at l.rows) ≡ flat_map (told l.set 0) l.rows))
