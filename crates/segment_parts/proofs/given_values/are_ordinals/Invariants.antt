use Rattle.std.proofs.Common.{ℕ, List, All, map}
use Rattle.term_table.specs.declared.rows.TermRow.{TermRow}
use Rattle.segment_parts.specs.Agree.{IsOrdinalAt}
use Rattle.segment_parts.specs.Passes.{PassBefore}
use Rattle.segment_parts.proofs.given_values.are_ordinals.Given as goal

abbrev pub invariant-rows : goal.invariant-rows
invariant-rows l = PassBefore (λ (own : ℕ × List ℕ). All (λ ordinal. IsOrdinalAt (map (λ (row : TermRow). row.term) l.terms) (map (λ (row : TermRow). row.postings) l.terms) l.column.0 own.0 ordinal) own.1) l.doc-items l.doc-index
