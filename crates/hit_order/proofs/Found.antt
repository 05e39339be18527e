-- The rows of a table.
use Rattle.std.specs.Prelude.{◌≡◌, ℕ, ◌<◌, List, length, get_or}
use Rattle.std.proofs.Common.{arith}
use Rattle.std.proofs.lemmas.List.FromFn.{length-map-range_with_len, get_or-map-range_with_len}
use Rattle.query_ast.specs.declared.sort.KeyRow.{KeyRow}
use Rattle.hit_order.specs.Table.{row_at, table_of}
use Rattle.hit_order.specs.declared.column.Column.{Column}
use Rattle.hit_order.specs.declared.column.RowPlace.{RowPlace}

pub length_rows : (columns : List Column) (places : List RowPlace) → length (table_of columns places).rows ≡ length places
unfolding table_of
length_rows columns places = length-map-range_with_len (row_at columns places) 0 (length places)

pub row_found : (columns : List Column) (places : List RowPlace) (at : ℕ) (d : KeyRow) → at < length places → get_or (table_of columns places).rows at d ≡ row_at columns places at
unfolding table_of
row_found columns places at d below = get_or-map-range_with_len (row_at columns places) 0 (length places) at at d below (omega arith)
