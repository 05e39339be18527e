use Rattle.std.proofs.Common.{◌≡◌, ◌+◌, ◌≤◌, drop, length}
use Rattle.segment_merge.proofs.Pieced.{kept_in}
use Rattle.segment_merge.proofs.pieces.live_row_count.Given as goal

abbrev pub invariant-rows : goal.invariant-rows
invariant-rows g l =
    (l.count + length (kept_in l.part (drop l.row l.column)) ≡ length (kept_in l.part l.column))
    × (l.count ≤ l.row)
