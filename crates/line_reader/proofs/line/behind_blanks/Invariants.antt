use Rattle.std.proofs.Common.{◌≡◌, ◌-◌, ◌≤◌, length, drop}
use Rattle.line_reader.specs.Line.{past_blanks}
use Rattle.line_reader.proofs.line.behind_blanks.Given as goal

abbrev pub invariant-blanks : goal.invariant-blanks
invariant-blanks l = (past_blanks (drop l.at l.bytes) ≡ past_blanks l.bytes) × (l.at ≤ length l.bytes)

abbrev pub decreases-blanks : goal.decreases-blanks
decreases-blanks l = length l.bytes - l.at
