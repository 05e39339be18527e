use Rattle.segment_parts.specs.Text.{presence_text}
use Rattle.segment_parts.specs.Parts.{IsPresence}
use Rattle.segment_parts.specs.Once.{IsReading}
use Rattle.segment_parts.proofs.presence.present_at.Given as goal

abbrev pub invariant-columns : goal.invariant-columns
invariant-columns l = IsReading presence_text (IsPresence l.documents) l.initial.rest l.columns.items l.rest l.counter
