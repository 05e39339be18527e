use Rattle.segment_parts.specs.Passes.{PassBefore}
use Rattle.std.proofs.Common.{ℕ, List, All}
use Rattle.segment_parts.specs.Agree.{IsOrdinalAt}
use Rattle.segment_parts.specs.Lists.{terms_of, postings_of}
use Rattle.segment.proofs.agree_columns.are_ordinal_rows.Given as goal

abbrev pub invariant-rows : goal.invariant-rows
invariant-rows l = PassBefore (λ (row : ℕ × List ℕ). All (λ ordinal. IsOrdinalAt (terms_of l.parts) (postings_of l.parts) l.field row.0 ordinal) row.1) l.column l.row
