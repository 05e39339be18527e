-- How the text of terms with their postings is read.
use Rattle.std.specs.Prelude.{ℕ, List, length, nat_lt, Bool, Option}
use Rattle.std.specs.Ordering.{is_lt}
use Rattle.part_text.specs.Reading.{Reader, u32_at, u64_at, string_at, both_at, tested_at, made_at, counted_at, follows}
use Rattle.term_table.specs.declared.rows.TermRow.{TermRow}
use Rattle.term_table.specs.Terms.{term_cmp}

-- a number behind a smaller one
abbrev pub ascending_at : Option ℕ → Reader ℕ
ascending_at = tested_at (follows nat_lt) u32_at

abbrev pub positions_at : Reader (List ℕ)
positions_at = counted_at u32_at (λ position. position) ascending_at

unfoldable pub posting_at : Option ℕ → Reader (ℕ × List ℕ)
posting_at = both_at ascending_at positions_at

abbrev pub postings_at : Reader (List (ℕ × List ℕ))
postings_at = counted_at u32_at (λ posting. posting.0) posting_at

-- at least one posting
unfoldable pub some_postings_at : Reader (List (ℕ × List ℕ))
some_postings_at bytes = tested_at (λ (_ : Unit {0}) postings. nat_lt 0 (length postings)) postings_at tt bytes

abbrev pub is_term_before : ℕ × List ℕ → ℕ × List ℕ → Bool
is_term_before one other = is_lt (term_cmp one other)

-- a term behind a smaller one
unfoldable pub term_at : Option (ℕ × List ℕ) → Reader (ℕ × List ℕ)
term_at = tested_at (follows is_term_before) (both_at (λ (_ : Unit {0}). u32_at) string_at tt)

abbrev pub row_of : (ℕ × List ℕ) × List (ℕ × List ℕ) → TermRow
row_of parts = record { term = parts.0; postings = parts.1 }

unfoldable pub row_at : Option (ℕ × List ℕ) → Reader TermRow
row_at = made_at row_of (both_at term_at some_postings_at)

abbrev pub rows_at : Reader (List TermRow)
rows_at = counted_at u64_at (λ row. row.term) row_at
