-- Serves proofs: the rows of a table by their indexes.
use Rattle.std.specs.Prelude.{◌≡◌, ℕ, ◌≤◌, ℤ, Bool, true, false, List, length, take, Option, Some, None, ⊤}
use Rattle.std.specs.List.{AllByRecursion}
use Rattle.query_ast.specs.Compare.{in_order}
use Rattle.query_ast.specs.Page.{comes_before, comes_after}
use Rattle.query_ast.specs.declared.sort.Key.{Key}
use Rattle.query_ast.specs.declared.sort.KeyRow.{KeyRow}
use Rattle.hit_order.specs.Table.{keys_of_row, number_of_row, row_at, directions_of}
use Rattle.hit_order.specs.declared.table.Table.{Table}

abbrev pub keys_at : Table → ℕ → List Key
keys_at t at = (row_at t.columns.items t.places.items at).keys

abbrev pub number_at : Table → ℕ → ℤ
number_at t at = (row_at t.columns.items t.places.items at).number

unfoldable pub is_before : Table → ℕ → ℕ → Bool
is_before t = comes_before (keys_at t) (number_at t) (directions_of t.columns.items)

unfoldable pub is_after : Table → Option KeyRow → ℕ → Bool
is_after t after = λ at. comes_after keys_of_row number_of_row (directions_of t.columns.items) after (row_at t.columns.items t.places.items at)

-- the first rows of these, in order
abbrev pub first_of : (ℕ → ℕ → Bool) → ℕ → List ℕ → List ℕ
first_of lt most rows = take most (in_order lt rows)

-- a row that stands behind none of the first of these, if there are as many as are wanted
abbrev pub IsReached : (ℕ → ℕ → Bool) → ℕ → Option ℕ → List ℕ → Type 0
IsReached lt most None kept = ⊤
IsReached lt most (Some worst) kept = (most ≤ length kept) × AllByRecursion (λ row. lt worst row ≡ false) (first_of lt most kept)

-- the first of all rows are the first of those that are kept
pub record IsSelecting (lt : ℕ → ℕ → Bool) (most : ℕ) (all kept : List ℕ) (worst : Option ℕ) : Type 0 where
  pub same : first_of lt most all ≡ first_of lt most kept
  pub reached : IsReached lt most worst kept

-- a row is wanted if it comes before the worst that is known
abbrev pub is_wanted : (ℕ → ℕ → Bool) → ℕ → Option ℕ → Bool
is_wanted lt row None = true
is_wanted lt row (Some worst) = lt row worst
