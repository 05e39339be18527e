-- Words of a phrase by numbers, and where they stand one after the other.
use Rattle.std.specs.Prelude.{◌≡◌, ℕ, ◌+◌, ◌<◌, ◌==◌, Bool, true, List, [], length, map, slice_index, slice_index_or}
use Rattle.std.specs.List.{All, list_any}
use Rattle.postings.specs.Postings.{Standing, present_positions}

-- of so many words, each is the one that stands so far before it
abbrev pub Repeats : List ℕ → ℕ → ℕ → Type 0
Repeats words count shift = (i : ℕ) → shift + i < count → slice_index words (shift + i) ≡ slice_index words i

-- the least number of places by which so many words can be moved on to stand on themselves
pub record IsShift (words : List ℕ) (count shift : ℕ) : Type 0 where
  pub some : 0 < shift
  pub repeats : Repeats words count shift
  pub least : (less : ℕ) → 0 < less → less < shift → Repeats words count less → ⊥

-- that of each number of words, from none on
abbrev pub AreShifts : List ℕ → List ℕ → Type 0
AreShifts words shifts = (count : ℕ) → count < length shifts → IsShift words count (slice_index shifts count)

-- the positions of each word in the document at which its cursor stands
abbrev pub positions_in : List Standing → List (List ℕ)
positions_in cursors = map present_positions cursors

abbrev pub stands : List (List ℕ) → ℕ → ℕ → Bool
stands places word position = list_any (λ p. p == position) (slice_index_or places word [])

-- so many words stand one after the other from a position on
abbrev pub IsRun : List (List ℕ) → List ℕ → ℕ → ℕ → Type 0
IsRun places words start count = (i : ℕ) → i < count → stands places (slice_index words i) (start + i) ≡ true

-- no two words stand at one position
abbrev pub AreApart : List (List ℕ) → Type 0
AreApart places = (one other position : ℕ) → one < length places → other < length places → stands places one position ≡ true → stands places other position ≡ true → one ≡ other

-- for each ordinal its index among those that are asked for
pub record AreIndexes (asked ordinals words : List ℕ) : Type 0 where
  pub long : length words ≡ length ordinals
  pub within : All (λ word. word < length asked) words
  pub each : (i : ℕ) → i < length ordinals → slice_index asked (slice_index words i) ≡ slice_index ordinals i
