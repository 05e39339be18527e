-- What the documents of a set have in a column.
use Rattle.std.specs.Prelude.{◌≡◌, ℕ, ℤ, ◌<◌, Bool, List, length}
use Rattle.std.specs.List.{All, flat_map}
use Rattle.std.specs.List.Sorted.{IsStrictlyIncreasing}
use Rattle.doc_values.specs.Values.{documents, values_of}
use Rattle.segment_parts.specs.Text.{marked_places}

-- their numbers, document by document
abbrev pub numbers_at : List (ℕ × List ℤ) → List Bool → List ℤ
numbers_at column flags = flat_map (λ doc. values_of doc column) (marked_places 0 flags)

-- the numbers of several segments
abbrev pub joined : List (List ℤ) → List ℤ
joined all = flat_map (λ zs. zs) all

-- rows of one value each that are those of a column, and whose documents have places in a set
pub record AreOwnRows (column : List (ℕ × List ℤ)) (flags : List Bool) (rows : List (ℕ × List ℤ)) : Type 0 where
  pub same : rows ≡ column
  pub ascending : IsStrictlyIncreasing (documents rows)
  pub within : All (λ doc. doc < length flags) (documents rows)
