-- Bits in which each document has one scope, counted document by document.
use Rattle.std.specs.Prelude.{◌≡◌, ℕ, ◌+◌, ◌*◌, ◌<◌, ◌≤◌, Bool, false, List, length, slice_index_or, count_by}
use Rattle.std.specs.List.{All}

abbrev pub has_document : ℕ → List Bool → Bool
has_document doc flags = slice_index_or flags doc false

-- how many of the sets have the document
unfoldable pub set_count : List (List Bool) → ℕ → ℕ
set_count sets doc = count_by (has_document doc) sets

-- each document of word `place` is in one set
abbrev pub HasOneIn : List (List Bool) → ℕ → ℕ → Type 0
HasOneIn sets len place = (doc : ℕ) → 64 * place ≤ doc → doc < 64 * (place + 1) → doc < len → set_count sets doc ≡ 1

-- so many documents, each in one set
pub record IsPartition (sets : List (List Bool)) (len : ℕ) : Type 0 where
  pub lengths : All (λ flags. length flags ≡ len) sets
  pub one : (doc : ℕ) → doc < len → set_count sets doc ≡ 1
