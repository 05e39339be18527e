-- The values of one field, by document.
use Rattle.std.specs.Prelude.{ℕ, ◌<◌, ◌^◌, ◌==◌, List, [], ◌∷◌, length, map, if◌then◌else◌}
use Rattle.std.specs.List.{All}
use Rattle.std.specs.List.Sorted.{IsStrictlyIncreasing, IsSorted}
use Rattle.std.specs.declared.cmp.Ordering.{Ordering}

-- the documents that have a row
abbrev pub documents : {X : Type 0} → List (ℕ × List X) → List ℕ
documents {X} rows = map (λ (row : ℕ × List X). row.0) rows

-- the values of a document: those of its row, or none
abbrev pub values_of : {X : Type 0} → ℕ → List (ℕ × List X) → List X
values_of doc [] = []
values_of doc (row ∷ rows) = if row.0 == doc then row.1 else values_of doc rows

-- an ordinal that fits eight bytes
abbrev pub IsOrdinal : ℕ → Type 0
IsOrdinal ordinal = ordinal < 2 ^ 64

-- the values of one document: one or more, ascending, the same one as often as it stands there
pub record AreValues {X : Type 0} (cmp : X → X → Ordering) (values : List X) : Type 0 where
  pub some : 0 < length values
  pub fewer : length values < 2 ^ 32
  pub ascending : IsSorted cmp values

-- one row a document, by ascending document, each with its values
pub record AreRows {X : Type 0} (cmp : X → X → Ordering) (rows : List (ℕ × List X)) : Type 0 where
  pub fewer : length rows < 2 ^ 32
  pub ascending : IsStrictlyIncreasing (documents rows)
  pub valued : All (λ (row : ℕ × List X). AreValues cmp row.1) rows
