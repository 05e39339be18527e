-- How a column is written.
use Rattle.std.specs.Prelude.{ℕ, List, ◌++◌}
use Rattle.part_text.specs.Text.{u32_text, counted_text}

-- a document, and its values behind their number
abbrev pub entry_text : {X : Type 0} → (X → List ℕ) → ℕ × List X → List ℕ
entry_text value_text row = u32_text row.0 ++ counted_text u32_text value_text row.1

-- the number of a field, and its entries behind their number
abbrev pub column_text : {X : Type 0} → (X → List ℕ) → ℕ × List (ℕ × List X) → List ℕ
column_text value_text column = u32_text column.0 ++ counted_text u32_text (entry_text value_text) column.1
