-- Columns by field.
use Rattle.std.specs.Prelude.{ℕ, ◌==◌, ◌<◌, ◌^◌, List, [], ◌∷◌, length, map, Option, Some, None, if◌then◌else◌}
use Rattle.std.specs.List.{All}
use Rattle.std.specs.List.Sorted.{IsStrictlyIncreasing}

-- the column of a field
abbrev pub column_of : {X : Type 0} → ℕ → List (ℕ × X) → Option X
column_of field [] = None
column_of field (column ∷ columns) = if column.0 == field then Some column.1 else column_of field columns

-- the fields that have a column
abbrev pub fields : {X : Type 0} → List (ℕ × X) → List ℕ
fields {X} columns = map (λ (column : ℕ × X). column.0) columns

-- columns that can be written, one a field, by ascending field
pub record AreByField {X : Type 0} (IsColumn : ℕ × X → Type 0) (columns : List (ℕ × X)) : Type 0 where
  pub fewer : length columns < 2 ^ 32
  pub ascending : IsStrictlyIncreasing (fields columns)
  pub each : All IsColumn columns
