-- Where the rows of a list stand in bytes: one place more than there are rows, the last of them the end.
use Rattle.std.specs.Prelude.{ℕ, ◌+◌, ◌-◌, ◌<◌, ◌≤◌, List, [], ◌∷◌, length, map, slice_index}
use Rattle.std.specs.List.{range_with_len, slice_range}

-- the place of each item where the first stands at this place and each behind the one before, and the end of the last
abbrev pub places_from : {X : Type 0} → (X → List ℕ) → ℕ → List X → List ℕ
places_from text place [] = place ∷ []
places_from text place (item ∷ items) = place ∷ places_from text (place + length (text item)) items

-- from a place up to the next
abbrev pub row : List ℕ → List ℕ → ℕ → List ℕ
row places bytes at = slice_range bytes (slice_index places at) (slice_index places (at + 1))

-- the bytes of all rows, in order
unfoldable pub rows_of : List ℕ → List ℕ → List (List ℕ)
rows_of places bytes = map (row places bytes) (range_with_len 0 (length places - 1))

-- places that don't fall, within bytes of this number
pub record ArePlaces (places : List ℕ) (end : ℕ) : Type 0 where
  pub some : 0 < length places
  pub rising : (at : ℕ) → at + 1 < length places → slice_index places at ≤ slice_index places (at + 1)
  pub within : (at : ℕ) → at < length places → slice_index places at ≤ end
