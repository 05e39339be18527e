use Rattle.segment_parts.specs.Passes.{PassBefore}
use Rattle.std.proofs.Common.{ℕ, List, IsNone}
use Rattle.segment_parts.specs.Fields.{column_of}
use Rattle.segment.proofs.agree.are_ordinals_apart.Given as goal

abbrev pub invariant-columns : goal.invariant-columns
invariant-columns l = PassBefore (λ (column : ℕ × List (ℕ × List ℕ)). IsNone (column_of column.0 l.parts.numbers) × IsNone (column_of column.0 l.parts.present)) l.parts.ordinals l.at
