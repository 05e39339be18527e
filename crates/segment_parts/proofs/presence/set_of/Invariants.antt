use Rattle.segment_parts.specs.Marks.{IsMarking}
use Rattle.segment_parts.proofs.presence.set_of.Given as goal

abbrev pub invariant-numbers : goal.invariant-numbers
invariant-numbers l = IsMarking l.documents l.marks l.numbers l.number-index l.next
