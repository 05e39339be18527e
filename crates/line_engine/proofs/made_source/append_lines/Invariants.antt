use Rattle.std.proofs.Common.{◌≡◌, ◌≤◌, ◌++◌, length}
use Rattle.made_load.specs.Lines.{lines_text}
use Rattle.tree_json.specs.Output.{room_of}
use Rattle.line_engine.proofs.made_source.append_lines.Given as goal

abbrev pub invariant-lines : goal.invariant-lines
invariant-lines l =
    (l.piece.bytes ++ lines_text l.lines ≡ l.fn.piece.bytes ++ lines_text l.fn.lines)
    × (room_of l.fn.piece ≤ room_of l.piece)

abbrev pub decreases-lines : goal.decreases-lines
decreases-lines l = length l.lines
