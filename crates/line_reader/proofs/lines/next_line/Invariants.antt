use Rattle.std.proofs.Common.{◌≡◌, None}
use Rattle.line_reader.specs.Reading.{Reads, IsQuiet}
use Rattle.line_reader.specs.Seen.{KnowsEnd, ahead}
use Rattle.line_reader.proofs.lines.next_line.Given as goal

abbrev pub invariant-lines : goal.invariant-lines
invariant-lines g l =
    Reads None l.fn.input l.input (g.S.Source.left l.fn.source) (g.S.Source.left l.source) (IsQuiet l.input.ended)
    × KnowsEnd l.input (g.S.Source.left l.source)
    × (g.S.Source.faults l.source ≡ g.S.Source.faults l.fn.source)

abbrev pub decreases-lines : goal.decreases-lines
decreases-lines g l = ahead l.input
