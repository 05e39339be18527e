-- The rows of a table whose columns hold the keys of one sort clause each.
use Rattle.std.specs.Prelude.{ℕ, ℤ, pos, List, map, length, get_or, Option, Some, None, refl}
use Rattle.std.specs.List.{range_with_len}
use Rattle.std.specs.Coded.{Coded, code_by, coded_list, coded×}
use Rattle.query_ast.specs.declared.sort.Direction.{Direction}
use Rattle.query_ast.specs.declared.sort.Key.{Key}
use Rattle.query_ast.specs.declared.sort.Key.TheVariants.{Null, Number, Written}
use Rattle.query_ast.specs.declared.sort.KeyRow.{KeyRow}
use Rattle.query_ast.specs.contracts.sort.Direction as direction
use Rattle.query_ast.specs.contracts.sort.KeyRow as key_row
use Rattle.hit_order.specs.declared.column.Column.{Column}
use Rattle.hit_order.specs.declared.column.ColumnKeys.{ColumnKeys}
use Rattle.hit_order.specs.declared.column.ColumnKeys.TheVariants.{Numbers, Texts}
use Rattle.hit_order.specs.declared.column.RowPlace.{RowPlace}

-- a row for each place of a hit, with a key for each clause
pub record KeyTable : Type 0 where
  pub directions : List Direction
  pub rows : List KeyRow

abbrev pub keys_of_row : KeyRow → List Key
keys_of_row row = row.keys

abbrev pub number_of_row : KeyRow → ℤ
number_of_row row = row.number

-- where it was found
abbrev pub place_of_row : KeyRow → RowPlace
place_of_row row = record { place = row.place; doc = row.doc; number = row.number }

-- ---- what is missing is null

abbrev pub number_or_null : Option ℤ → Key
number_or_null None = Null
number_or_null (Some z) = Number z

abbrev pub text_or_null : Option (List ℕ) → Key
text_or_null None = Null
text_or_null (Some s) = Written s

-- the keys of a column, from the first row on
abbrev pub keys_of : ColumnKeys → List Key
keys_of (Numbers keys) = map number_or_null keys
keys_of (Texts keys) = map text_or_null keys

-- ---- row `at` has key `at` of each column; a column that is too short has nulls

abbrev pub key_at : Column → ℕ → Key
key_at column at = get_or (keys_of column.keys) at Null

abbrev pub place_at : List RowPlace → ℕ → RowPlace
place_at places at = get_or places at (record { place = 0; doc = 0; number = pos 0 })

abbrev pub row_at : List Column → List RowPlace → ℕ → KeyRow
row_at columns places at = record {
  keys = map (λ column. key_at column at) columns;
  place = (place_at places at).place;
  doc = (place_at places at).doc;
  number = (place_at places at).number;
}

abbrev pub directions_of : List Column → List Direction
directions_of columns = map (λ (column : Column). column.direction) columns

unfoldable pub table_of : List Column → List RowPlace → KeyTable
table_of columns places = record {
  directions = directions_of columns;
  rows = map (row_at columns places) (range_with_len 0 (length places));
}

-- ---- a code

abbrev pub table_code : Coded KeyTable
table_code =
    code_by (List Direction × List KeyRow) (coded× (coded_list direction.the_row.coded) (coded_list key_row.the_row.coded))
    (λ t. (t.directions, t.rows)) (λ p. record { directions = p.0; rows = p.1 }) (λ t. refl)
