-- How a table is read: its terms stand at the fronts of the rows between its places.
use Rattle.std.specs.Prelude.{ℕ, ◌+◌, ◌≤◌, List, length, map, take, drop}
use Rattle.std.specs.List.{All}
use Rattle.part_text.specs.Front.{first_u32}
use Rattle.part_text.specs.Places.{rows_of, ArePlaces}
use Rattle.term_table.specs.Terms.{AreAscending}

-- the number of bytes of the term at the front of a row
abbrev pub term_length : List ℕ → ℕ
term_length row = first_u32 (drop 4 row)

-- the term at the front of a row
abbrev pub term_of : List ℕ → ℕ × List ℕ
term_of row = (first_u32 row, take (term_length row) (drop 8 row))

-- a row long enough for its term
abbrev pub HasTerm : List ℕ → Type 0
HasTerm row = 8 + term_length row ≤ length row

-- the terms of all rows, in order
unfoldable pub terms_of : List ℕ → List ℕ → List (ℕ × List ℕ)
terms_of bytes places = map term_of (rows_of places bytes)

pub record IsTable (bytes places : List ℕ) : Type 0 where
  pub places_are : ArePlaces places (length bytes)
  pub have_terms : All HasTerm (rows_of places bytes)
  pub ascending : AreAscending (terms_of bytes places)
