use Rattle.segment_parts.specs.Passes.{PassBefore}
use Rattle.std.proofs.Common.{ℕ, ℤ, List, All}
use Rattle.segment_parts.specs.Agree.{IsKeyed}
use Rattle.segment_parts.specs.Lists.{terms_of, postings_of}
use Rattle.segment.proofs.agree_columns.are_keyed_rows.Given as goal

abbrev pub invariant-rows : goal.invariant-rows
invariant-rows l = PassBefore (λ (row : ℕ × List ℤ). All (λ number. IsKeyed (terms_of l.parts) (postings_of l.parts) l.field row.0 number) row.1) l.column l.row
