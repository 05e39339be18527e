-- Which columns there are, and where one stands in the bytes of a segment.
use Rattle.std.specs.Prelude.{◌≡◌, ℕ, ◌+◌, ◌<◌, ◌≤◌, ◌^◌, List, ◌++◌, length, drop}
use Rattle.std.specs.List.{All}
use Rattle.std.specs.declared.cmp.Ordering.{Ordering}
use Rattle.part_text.specs.Places.{places_from}
use Rattle.doc_values.specs.Values.{AreValues, AreRows}
use Rattle.doc_values.specs.Text.{entry_text, column_text}

-- the entries of a column: rows, at least one, of numbers that fit their bytes
pub record AreEntries {X : Type 0} (cmp : X → X → Ordering) (Fits : X → Type 0) (rows : List (ℕ × List X)) : Type 0 where
  pub some : 0 < length rows
  pub rows_are : AreRows cmp rows
  pub numbered : All (λ (row : ℕ × List X). row.0 < 2 ^ 32) rows
  pub fit : All (λ (row : ℕ × List X). All Fits row.1) rows

-- a field with its entries
pub record IsColumn {X : Type 0} (cmp : X → X → Ordering) (Fits : X → Type 0) (column : ℕ × List (ℕ × List X)) : Type 0 where
  pub field : column.0 < 2 ^ 32
  pub entries : AreEntries cmp Fits column.1

-- a column stands at a place of bytes: from there on its text up to `end`, and these are the places of its entries
pub record Stands {X : Type 0} (cmp : X → X → Ordering) (Fits : X → Type 0) (text : X → List ℕ) (bytes : List ℕ) (at : ℕ) (column : ℕ × List (ℕ × List X)) (places : List ℕ) (end : ℕ) : Type 0 where
  pub is : IsColumn cmp Fits column
  pub there : drop at bytes ≡ column_text text column ++ drop end bytes
  pub ends : end ≡ at + length (column_text text column)
  pub within : end ≤ length bytes
  pub placed : places ≡ places_from (entry_text text) (at + 8) column.1

-- the places are those of this column's entries
pub record Belong {X : Type 0} (cmp : X → X → Ordering) (Fits : X → Type 0) (text : X → List ℕ) (bytes places : List ℕ) (column : ℕ × List (ℕ × List X)) : Type 0 where
  pub at : ℕ
  pub end : ℕ
  pub stands : Stands cmp Fits text bytes at column places end

-- a row by itself
pub record IsRow {X : Type 0} (cmp : X → X → Ordering) (Fits : X → Type 0) (row : ℕ × List X) : Type 0 where
  pub numbered : row.0 < 2 ^ 32
  pub valued : AreValues cmp row.1
  pub fit : All Fits row.1
