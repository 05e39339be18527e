use Rattle.std.proofs.Common.{◌≡◌, map, take}
use Rattle.layout_commands.specs.Ends.{segment_row_of}
use Rattle.layout_commands.proofs.layout_rows.segment_rows.Given as goal

abbrev pub invariant-segments : goal.invariant-segments
invariant-segments l = l.rows.items ≡ map segment_row_of (take l.segment-index l.segments)
