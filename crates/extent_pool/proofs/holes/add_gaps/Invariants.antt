use Rattle.std.proofs.Common.{◌≡◌, ◌+◌, ◌≤◌, ◌++◌, length, drop}
use Rattle.extent_pool.specs.Extents.{room_of}
use Rattle.extent_pool.specs.Gaps.{AreLaid, gaps}
use Rattle.extent_pool.proofs.holes.add_gaps.Given as goal

abbrev pub invariant-loop-extent : goal.invariant-loop-extent
invariant-loop-extent l =
    record {
      laid : AreLaid l.from (drop l.extent-index l.extents) l.end;
      done : l.holes.extents ++ gaps l.from (drop l.extent-index l.extents) l.end ≡ l.fn.holes.extents ++ gaps 0 l.extents l.end;
      spare : length (drop l.extent-index l.extents) + 1 ≤ l.holes.spare;
      room : room_of l.holes ≡ room_of l.fn.holes;
    }
