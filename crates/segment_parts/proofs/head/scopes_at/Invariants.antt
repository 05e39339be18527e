use Rattle.segment_parts.specs.Text.{scope_text}
use Rattle.segment_parts.specs.Heads.{HasLength}
use Rattle.segment_parts.specs.Once.{IsReading}
use Rattle.segment_parts.proofs.head.scopes_at.Given as goal

abbrev pub invariant-scopes : goal.invariant-scopes
invariant-scopes l = IsReading scope_text (HasLength l.documents) l.bytes l.sets.items l.rest l.counter
