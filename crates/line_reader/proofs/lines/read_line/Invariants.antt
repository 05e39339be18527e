use Rattle.std.proofs.Common.{◌≡◌, ◌+◌, ◌*◌, length, None}
use Rattle.line_reader.specs.Reading.{Reads, BeginsLine}
use Rattle.line_reader.specs.Seen.{KnowsEnd}
use Rattle.line_reader.proofs.lines.read_line.Given as goal

abbrev pub invariant-pieces : goal.invariant-pieces
invariant-pieces g l =
    Reads None l.fn.input l.input (g.S.Source.left l.fn.source) (g.S.Source.left l.source) (BeginsLine l.line)
    × KnowsEnd l.input (g.S.Source.left l.source)
    × (g.S.Source.faults l.source ≡ g.S.Source.faults l.fn.source)

abbrev pub decreases-pieces : goal.decreases-pieces
decreases-pieces g l = 2 * l.input.allowance + length l.input.unread
