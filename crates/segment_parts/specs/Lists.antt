-- The lists of a segment by ordinal and by root.
use Rattle.std.specs.Prelude.{ℕ, List, map}
use Rattle.term_table.specs.declared.rows.TermRow.{TermRow}
use Rattle.segment_parts.specs.declared.columns.Columns.{Columns}

-- the terms, in order
abbrev pub terms_of : Columns → List (ℕ × List ℕ)
terms_of columns = map (λ (row : TermRow). row.term) columns.terms

-- the postings of each
abbrev pub postings_of : Columns → List (List (ℕ × List ℕ))
postings_of columns = map (λ (row : TermRow). row.postings) columns.terms
