-- Roots put into a set by their numbers.
use Rattle.std.specs.Prelude.{◌≡◌, ℕ, ◌==◌, ◌<◌, ◌||◌, Bool, false, List, length, slice_index, slice_index_or}
use Rattle.std.specs.List.{list_any}
use Rattle.segment.specs.Roots.{root_documents}

-- whether a document is that of a root
abbrev pub is_of_root : List (List Bool) → ℕ → ℕ → Bool
is_of_root scopes doc root = slice_index (root_documents scopes) root == doc

-- a set gains the documents of some roots
pub record GainsDocuments (scopes : List (List Bool)) (roots : List ℕ) (old new : List Bool) : Type 0 where
  pub long : length new ≡ length old
  pub marked : (doc : ℕ) → doc < length old → slice_index_or new doc false ≡ (slice_index_or old doc false || list_any (is_of_root scopes doc) roots)
