-- The documents of a bit set: one flag a document, kept 64 to a word.
use Rattle.std.specs.Prelude.{◌≡◌, ◌==◌, ℕ, ◌+◌, ◌-◌, ◌/◌, ◌%◌, ◌^◌, ◌<◌, ◌≤◌, nat_lt, Bool, false, List, ◌++◌, length, map, take, drop, replicate, slice_index}
use Rattle.std.specs.Prelude.{◌&&◌, ◌||◌, not}
use Rattle.std.specs.Int.{bit_at}
use Rattle.std.specs.List.{range_with_len, zip}

-- whether a document is in the set, as a test of its flag
abbrev pub is_marked : Bool → Bool
is_marked flag = flag

-- document `at` is bit `at % 64` of word `at / 64`
unfoldable pub is_set : List ℕ → ℕ → Bool
is_set words at = bit_at (slice_index words (at / 64)) (at % 64) == 1

-- the flags of the first `len` documents
unfoldable pub flags : List ℕ → ℕ → List Bool
flags words len = map (is_set words) (range_with_len 0 len)

-- documents numbered by u32, as many words as they take, and no bit set past the last one
pub record IsTight (words : List ℕ) (len : ℕ) : Type 0 where
  pub small : len < 2 ^ 32
  pub long : length words ≡ (len + 63) / 64
  pub clear : (at : ℕ) → len ≤ at → is_set words at ≡ false

-- whether a document is one of those from `from` up to `end`
abbrev pub is_between : ℕ → ℕ → ℕ → Bool
is_between from end at = nat_lt at end && not (nat_lt at from)

-- the flags from place `from` up to place `end` cleared
abbrev pub cleared : ℕ → ℕ → List Bool → List Bool
cleared from end flags = take from flags ++ (replicate (end - from) false ++ drop end flags)

-- the documents in both sets, in either, and in the first without the second
abbrev pub intersection : List Bool → List Bool → List Bool
intersection ones others = map (λ (pair : Bool × Bool). pair.0 && pair.1) (zip ones others)

abbrev pub union : List Bool → List Bool → List Bool
union ones others = map (λ (pair : Bool × Bool). pair.0 || pair.1) (zip ones others)

abbrev pub difference : List Bool → List Bool → List Bool
difference ones others = map (λ (pair : Bool × Bool). pair.0 && not pair.1) (zip ones others)
