-- How lists of postings are read: each stands behind the term of its row, and its entries one after the other.
use Rattle.std.specs.Prelude.{◌≡◌, ℕ, ◌+◌, ◌*◌, ◌≤◌, List, [], length, map, drop, Option, Some, None, Bool, true, false}
use Rattle.std.specs.List.{All, flat_map}
use Rattle.part_text.specs.Text.{u32_text, counted_text}
use Rattle.part_text.specs.Front.{first_u32}
use Rattle.part_text.specs.Places.{rows_of, ArePlaces}
use Rattle.term_table.specs.Postings.{ArePostings}
use Rattle.term_table.specs.Part.{posting_text}
use Rattle.term_table.specs.Kept.{term_length, HasTerm}
use Rattle.term_table.specs.Reading.{postings_at}
use Rattle.postings.specs.Marks.{has_positions}

-- what was read, or nothing
abbrev pub read_or_none : Option (List (ℕ × List ℕ) × List ℕ) → List (ℕ × List ℕ)
read_or_none None = []
read_or_none (Some read) = read.0

-- the postings of a list
unfoldable pub postings_of : List ℕ → List (ℕ × List ℕ)
postings_of text = read_or_none (postings_at text)

-- the text of postings behind their number
pub record IsList (text : List ℕ) : Type 0 where
  pub are : ArePostings (postings_of text)
  pub is : text ≡ counted_text u32_text posting_text (postings_of text)

-- what is left of a list from posting `at` on, and whether all entries have one width
pub record IsAt (postings : List (ℕ × List ℕ)) (count at : ℕ) (rest : List ℕ) (plain : Bool) : Type 0 where
  pub are : ArePostings postings
  pub counts : count ≡ length postings
  pub within : at ≤ count
  pub here : rest ≡ flat_map posting_text (drop at postings)
  pub plainly : plain ≡ true → has_positions postings ≡ false

-- the list of a row
abbrev pub list_text : List ℕ → List ℕ
list_text row = drop (8 + term_length row) row

-- an entry long enough for its positions
abbrev pub HasEntry : List ℕ → Type 0
HasEntry rest = 8 + 4 * first_u32 (drop 4 rest) ≤ length rest

pub record HasList (row : List ℕ) : Type 0 where
  pub has_term : HasTerm row
  pub list_is : IsList (list_text row)

abbrev pub list_of : List ℕ → List (ℕ × List ℕ)
list_of row = postings_of (list_text row)

-- the postings of all rows, in order
unfoldable pub lists_of : List ℕ → List ℕ → List (List (ℕ × List ℕ))
lists_of bytes places = map list_of (rows_of places bytes)

pub record IsTable (bytes places : List ℕ) : Type 0 where
  pub places_are : ArePlaces places (length bytes)
  pub have_lists : All HasList (rows_of places bytes)
