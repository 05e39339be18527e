use Rattle.std.proofs.Common.{◌≡◌, ◌++◌, ◌-◌, ◌*◌, ◌^◌, ℤ, List, drop}
use Rattle.std.specs.List.{flat_map}
use Rattle.bucket_aggs.specs.Sums.{HasRoom, IsAdded}
use Rattle.bucket_aggs.proofs.Told.{told}
use Rattle.bucket_aggs.proofs.metrics.with_rows.Given as goal

abbrev pub invariant-rows : goal.invariant-rows
invariant-rows l =
    HasRoom ((2 ^ 32 - 1 - l.row) * 2 ^ 32) l.sums
    × ((done : List ℤ) × IsAdded l.fn.start done l.sums × (done ++ flat_map (told l.set 0) (drop l.row l.column) ≡ flat_map (told l.set 0) l.column))
