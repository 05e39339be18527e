use Rattle.segment_parts.specs.Passes.{PassBefore}
use Rattle.std.proofs.Common.{ℕ, ℤ, List}
use Rattle.segment_parts.specs.Agree.{AreWithin}
use Rattle.segment.proofs.agree.are_numbers_within.Given as goal

abbrev pub invariant-columns : goal.invariant-columns
invariant-columns l = PassBefore (λ (column : ℕ × List (ℕ × List ℤ)). AreWithin l.parts.documents column.1) l.parts.numbers l.at
