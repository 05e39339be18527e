use Rattle.segment_parts.specs.Passes.{PassBefore}
use Rattle.std.proofs.Common.{ℕ, ℤ, List, IsNone}
use Rattle.segment_parts.specs.Fields.{column_of}
use Rattle.segment.proofs.agree.are_numbers_apart.Given as goal

abbrev pub invariant-columns : goal.invariant-columns
invariant-columns l = PassBefore (λ (column : ℕ × List (ℕ × List ℤ)). IsNone (column_of column.0 l.parts.present)) l.parts.numbers l.at
