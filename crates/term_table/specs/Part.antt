-- The terms of a segment with their postings, as they are written, and where they stand in bytes.
use Rattle.std.specs.Prelude.{◌≡◌, ℕ, ◌+◌, ◌<◌, ◌^◌, List, ◌++◌, length, map, drop}
use Rattle.std.specs.List.{All}
use Rattle.part_text.specs.Text.{u32_text, u64_text, string_text, counted_text}
use Rattle.part_text.specs.Places.{places_from}
use Rattle.term_table.specs.declared.rows.TermRow.{TermRow}
use Rattle.term_table.specs.Terms.{AreAscending}
use Rattle.term_table.specs.Postings.{ArePostings}

-- a document, and the positions in it behind their number
abbrev pub posting_text : ℕ × List ℕ → List ℕ
posting_text posting = u32_text posting.0 ++ counted_text u32_text u32_text posting.1

-- a field, and bytes behind their number
abbrev pub term_text : ℕ × List ℕ → List ℕ
term_text term = u32_text term.0 ++ string_text term.1

-- a term, and its postings behind their number
abbrev pub row_text : TermRow → List ℕ
row_text row = term_text row.term ++ counted_text u32_text posting_text row.postings

-- all terms with their postings, behind the number of terms
abbrev pub rows_text : List TermRow → List ℕ
rows_text rows = counted_text u64_text row_text rows

-- a term that some document has
pub record IsRow (row : TermRow) : Type 0 where
  pub field : row.term.0 < 2 ^ 32
  pub short : length row.term.1 < 2 ^ 32
  pub some : 0 < length row.postings
  pub postings_are : ArePostings row.postings

-- terms in order, each with its postings
pub record AreRows (rows : List TermRow) : Type 0 where
  pub fewer : length rows < 2 ^ 64
  pub ascending : AreAscending (map (λ row. row.term) rows)
  pub rows_are : All IsRow rows

-- these rows stand in bytes from the place `at` up to the place `end`, each at its place behind the eight bytes of their number
pub record Stand (bytes : List ℕ) (at : ℕ) (rows : List TermRow) (places : List ℕ) (end : ℕ) : Type 0 where
  pub are : AreRows rows
  pub text : drop at bytes ≡ rows_text rows ++ drop end bytes
  pub ends : end ≡ at + length (rows_text rows)
  pub placed : places ≡ places_from row_text (at + 8) rows

-- places of rows that stand in the bytes
pub record Belong (bytes places : List ℕ) : Type 0 where
  pub at : ℕ
  pub rows : List TermRow
  pub end : ℕ
  pub stand : Stand bytes at rows places end
