use Rattle.std.proofs.Common.{◌≡◌, drop}
use Rattle.extent_pool.specs.Changes.{are_apart}
use Rattle.extent_pool.proofs.taken.stand_apart.Given as goal

abbrev pub invariant-loop-extent : goal.invariant-loop-extent
invariant-loop-extent l = are_apart l.from (drop l.extent-index l.extents) ≡ are_apart 0 l.extents
