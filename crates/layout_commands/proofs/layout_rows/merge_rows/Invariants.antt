use Rattle.std.proofs.Common.{◌≡◌, map, take}
use Rattle.layout_commands.specs.Ends.{merge_row_of}
use Rattle.layout_commands.proofs.layout_rows.merge_rows.Given as goal

abbrev pub invariant-merges : goal.invariant-merges
invariant-merges l = l.rows.items ≡ map merge_row_of (take l.merge-index l.merges)
