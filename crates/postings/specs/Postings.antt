-- A cursor over the postings of a term.
pub use Rattle.term_table.specs.Postings.{documents, AreAscending, ArePostings}
use Rattle.std.specs.Prelude.{ℕ, ◌+◌, List, [], drop, nat_le, slice_get, Option}
use Rattle.std.specs.List.{position_or_len}
use Rattle.std.specs.Option.{option_map, option_map_or}

-- postings, and the place of the present one; past the last there is none
pub record Standing : Type 0 where
  pub postings : List (ℕ × List ℕ)
  pub at : ℕ

-- the posting at which a cursor stands
abbrev pub present : Standing → Option (ℕ × List ℕ)
present cursor = slice_get cursor.postings cursor.at

-- its document
abbrev pub present_document : Standing → Option ℕ
present_document cursor = option_map (λ (posting : ℕ × List ℕ). posting.0) (present cursor)

-- its positions
abbrev pub present_positions : Standing → List ℕ
present_positions cursor = option_map_or (λ (posting : ℕ × List ℕ). posting.1) (present cursor) []

-- the first place from the present one on whose document is at or after `to`, or the end
abbrev pub place_from : ℕ → Standing → ℕ
place_from to cursor = cursor.at + position_or_len (λ (posting : ℕ × List ℕ). nat_le to posting.0) (drop cursor.at cursor.postings)
