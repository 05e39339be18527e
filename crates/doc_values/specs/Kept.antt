-- How a column is read in place: the values of an entry are the numbers behind its first eight bytes.
use Rattle.std.specs.Prelude.{◌≡◌, ℕ, ◌+◌, ◌-◌, ◌*◌, ◌/◌, ◌%◌, ◌<◌, ◌≤◌, List, [], ◌∷◌, length, map, take, drop}
use Rattle.std.specs.List.{range_with_len}
use Rattle.std.specs.List.Sorted.{IsStrictlyIncreasing}
use Rattle.std.specs.declared.cmp.Ordering.{Ordering}
use Rattle.part_text.specs.Front.{first_u32}
use Rattle.part_text.specs.Places.{row, rows_of, ArePlaces}
use Rattle.doc_values.specs.Values.{AreRows}

-- number `at` of bytes, eight bytes a number
abbrev pub value_in : {X : Type 0} → (List ℕ → X) → List ℕ → ℕ → X
value_in front bytes at = front (drop (8 * at) bytes)

-- the numbers that bytes are
unfoldable pub values_in : {X : Type 0} → (List ℕ → X) → List ℕ → List X
values_in front bytes = map (value_in front bytes) (range_with_len 0 (length bytes / 8))

-- the document of an entry, and its values
abbrev pub entry_of : {X : Type 0} → (List ℕ → X) → List ℕ → ℕ × List X
entry_of front entry = (first_u32 entry, values_in front (drop 8 entry))

-- the rows of the entries at these places
unfoldable pub column_rows : {X : Type 0} → (List ℕ → X) → List ℕ → List ℕ → List (ℕ × List X)
column_rows front places bytes = map (entry_of front) (rows_of places bytes)

-- the document of each entry
unfoldable pub documents_in : List ℕ → List ℕ → List ℕ
documents_in places bytes = map first_u32 (rows_of places bytes)

-- entries of a document, a number and one value at least, of whole eights of bytes, with ascending documents
pub record AreEntriesAt (places bytes : List ℕ) : Type 0 where
  pub places_are : ArePlaces places (length bytes)
  pub whole : (at : ℕ) → at + 1 < length places → 16 ≤ length (row places bytes at)
  pub eights : (at : ℕ) → at + 1 < length places → length (row places bytes at) % 8 ≡ 0
  pub ascending : IsStrictlyIncreasing (documents_in places bytes)

-- entries, and the rows of a column
pub record IsKept {X : Type 0} (cmp : X → X → Ordering) (front : List ℕ → X) (places bytes : List ℕ) : Type 0 where
  pub entries : AreEntriesAt places bytes
  pub rows_are : AreRows cmp (column_rows front places bytes)

-- ---- entries of one value each

-- entry number `at` of bytes, sixteen bytes an entry
abbrev pub single_entry : List ℕ → ℕ → List ℕ
single_entry bytes at = take 16 (drop (16 * at) bytes)

-- its document, and its one value
abbrev pub single_in : {X : Type 0} → (List ℕ → X) → List ℕ → ℕ → ℕ × List X
single_in front bytes at = (first_u32 (single_entry bytes at), front (drop 8 (single_entry bytes at)) ∷ [])

-- the rows of such entries
unfoldable pub single_rows_in : {X : Type 0} → (List ℕ → X) → List ℕ → List (ℕ × List X)
single_rows_in front bytes = map (single_in front bytes) (range_with_len 0 (length bytes / 16))

-- all entries have sixteen bytes
abbrev pub AreSixteen : List ℕ → List ℕ → Type 0
AreSixteen places bytes = (at : ℕ) → at + 1 < length places → length (row places bytes at) ≡ 16

-- these are the entries, sixteen bytes each
pub record AreSingleAt (places bytes own : List ℕ) : Type 0 where
  pub long : length own ≡ 16 * (length places - 1)
  pub entry_is : (at : ℕ) → at + 1 < length places → row places bytes at ≡ single_entry own at
