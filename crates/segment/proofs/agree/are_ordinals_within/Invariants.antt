use Rattle.segment_parts.specs.Passes.{PassBefore}
use Rattle.std.proofs.Common.{ℕ, List}
use Rattle.segment_parts.specs.Agree.{AreWithin}
use Rattle.segment.proofs.agree.are_ordinals_within.Given as goal

abbrev pub invariant-columns : goal.invariant-columns
invariant-columns l = PassBefore (λ (column : ℕ × List (ℕ × List ℕ)). AreWithin l.parts.documents column.1) l.parts.ordinals l.at
