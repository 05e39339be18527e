-- The page is what was selected, row by row.
use Rattle.std.specs.Prelude.{◌≡◌, ℕ, zero, suc, ◌+◌, ◌<◌, ℤ, List, [], ◌∷◌, map, take, drop, filter, length, get_or, Option, Some, None, refl}
use Rattle.std.specs.Cmp.{IsStrictWeakOrder}
use Rattle.std.specs.List.{range_with_len}
use Rattle.std.proofs.Common.{arith, ap, sym, subst, ◌∙◌}
use Rattle.std.proofs.lemmas.Bool.{true≢false}
use Rattle.std.proofs.lemmas.List.{length-map, get_or-map, drop-take, drop-map, take-map}
use Rattle.std.proofs.lemmas.List.FromFn.{fill_by_all}
use Rattle.query_ast.specs.Compare.{in_order}
use Rattle.query_ast.specs.Page.{page_of, comes_before, comes_after}
use Rattle.query_ast.specs.declared.sort.Key.TheVariants.{Null}
use Rattle.query_ast.specs.declared.sort.KeyRow.{KeyRow}
use Rattle.hit_order.specs.Table.{keys_of_row, number_of_row, number_or_null, text_or_null, keys_of, key_at, place_at, row_at, directions_of, table_of, KeyTable}
use Rattle.hit_order.specs.Indexed.{is_before, is_after, first_of}
use Rattle.hit_order.specs.declared.column.Column.{Column}
use Rattle.hit_order.specs.declared.column.ColumnKeys.{ColumnKeys}
use Rattle.hit_order.specs.declared.column.ColumnKeys.TheVariants.{Numbers, Texts}
use Rattle.hit_order.specs.declared.column.RowPlace.{RowPlace}
use Rattle.hit_order.specs.declared.table.Table.{Table}
use Rattle.hit_order.proofs.Selecting.{split, GoesUp, filter-in_order, in_order-map, filter-map}

-- ---- the keys of chosen rows

get_or-map_all : {X Y : Type 0} (f : X → Y) (xs : List X) (at : ℕ) (d : X) → f (get_or xs at d) ≡ get_or (map f xs) at (f d)
get_or-map_all f [] at d = refl
get_or-map_all f (x ∷ xs) zero d = refl
get_or-map_all f (x ∷ xs) (suc at) d = get_or-map_all f xs at d

map_get_or : {X Y : Type 0} (f : X → Y) (xs : List X) (d : X) (rows : List ℕ) → map f (map (λ row. get_or xs row d) rows) ≡ map (λ row. get_or (map f xs) row (f d)) rows
map_get_or f xs d [] = refl
map_get_or f xs d (row ∷ rows) =
    ap (λ y. y ∷ map f (map (λ at. get_or xs at d) rows)) (get_or-map_all f xs row d) ∙ ap (λ ys. get_or (map f xs) row (f d) ∷ ys) (map_get_or f xs d rows)

pub numbers_gathered : (column : Column) (keys made : List (Option ℤ)) (rows : List ℕ) → column.keys ≡ Numbers keys → made ≡ map (λ row. get_or keys row None) rows → map number_or_null made ≡ map (key_at column) rows
numbers_gathered column keys made rows e is =
    subst (λ (ks : ColumnKeys). map number_or_null made ≡ map (λ row. get_or (keys_of ks) row Null) rows) (sym e) (ap (map number_or_null) is ∙ map_get_or number_or_null keys None rows)

pub texts_gathered : (column : Column) (keys made : List (Option (List ℕ))) (rows : List ℕ) → column.keys ≡ Texts keys → made ≡ map (λ row. get_or keys row None) rows → map text_or_null made ≡ map (key_at column) rows
texts_gathered column keys made rows e is =
    subst (λ (ks : ColumnKeys). map text_or_null made ≡ map (λ row. get_or (keys_of ks) row Null) rows) (sym e) (ap (map text_or_null) is ∙ map_get_or text_or_null keys None rows)

pub ruleset gathered_keys = (numbers_gathered, texts_gathered)

-- ---- a table of chosen rows

keys_gathered : (columns made : List Column) (rows : List ℕ) (at d : ℕ) → map (λ (column : Column). keys_of column.keys) made ≡ map (λ column. map (key_at column) rows) columns → at < length rows → map (λ column. key_at column at) made ≡ map (λ column. key_at column (get_or rows at d)) columns
keys_gathered [] [] rows at d same below = refl
keys_gathered [] (c ∷ made) rows at d same below = cc
keys_gathered (c ∷ columns) [] rows at d same below = cc
keys_gathered (c ∷ columns) (m ∷ made) rows at d same below =
    let first : keys_of m.keys ≡ map (key_at c) rows = cc in
    let rest : map (λ (column : Column). keys_of column.keys) made ≡ map (λ column. map (key_at column) rows) columns = cc in
    let one : key_at m at ≡ key_at c (get_or rows at d) = ap (λ keys. get_or keys at Null) first ∙ get_or-map (key_at c) rows at d Null below in
    rw one (ap (λ keys. key_at c (get_or rows at d) ∷ keys) (keys_gathered columns made rows at d rest below))

row_gathered : (columns made : List Column) (places found : List RowPlace) (rows : List ℕ) (at d : ℕ) → map (λ (column : Column). keys_of column.keys) made ≡ map (λ column. map (key_at column) rows) columns → found ≡ map (place_at places) rows → at < length rows → row_at columns places (get_or rows at d) ≡ row_at made found at
row_gathered columns made places found rows at d keys is below =
    let place : place_at found at ≡ place_at places (get_or rows at d) = ap (λ all. place_at all at) is ∙ get_or-map (place_at places) rows at d _ below in
    rw (place, keys_gathered columns made rows at d keys below) refl

pub gathered_table : (columns made : List Column) (places found : List RowPlace) (rows : List ℕ) → directions_of made ≡ directions_of columns → map (λ (column : Column). keys_of column.keys) made ≡ map (λ column. map (key_at column) rows) columns → found ≡ map (place_at places) rows → table_of made found ≡ record { directions = directions_of columns; rows = map (row_at columns places) rows }
unfolding table_of
gathered_table columns made places found rows directions keys is =
    let count : length found ≡ length rows = ap length is ∙ length-map rows (place_at places) in
    let all : map (row_at columns places) rows ≡ map (row_at made found) (range_with_len 0 (length found)) =
    fill_by_all (row_at made found) (map (row_at columns places) rows) (length found) (row_at made found 0) (length-map rows (row_at columns places) ∙ sym count)
    (λ k below. get_or-map (row_at columns places) rows k 0 (row_at made found 0) (omega (arith, below, count)) ∙ row_gathered columns made places found rows k 0 keys is (omega (arith, below, count))) in
    rw (directions, all) refl

-- ---- the page

goes_up : (t : Table) (after : Option KeyRow) → IsStrictWeakOrder (comes_before keys_of_row number_of_row (directions_of t.columns.items)) → GoesUp (is_before t) (is_after t after)
unfolding is_before is_after
goes_up t None o x y behind passes = refl
goes_up t (Some row) o x y behind passes =
    let at : ℕ → KeyRow = row_at t.columns.items t.places.items in
    split (comes_before keys_of_row number_of_row (directions_of t.columns.items) row (at y))
    (λ yes. yes)
    (λ no. absurd (true≢false (sym passes ∙ o.chain row (at y) (at x) no behind)))

pub selected_page : (t : Table) (after : Option KeyRow) (from size : ℕ) → IsStrictWeakOrder (comes_before keys_of_row number_of_row (directions_of t.columns.items)) → map (row_at t.columns.items t.places.items) (drop from (first_of (is_before t) (from + size) (filter (is_after t after) (range_with_len 0 (length t.places.items))))) ≡ page_of keys_of_row number_of_row (table_of t.columns.items t.places.items).directions after from size (table_of t.columns.items t.places.items).rows
unfolding is_before is_after table_of page_of
selected_page t after from size o =
    let at : ℕ → KeyRow = row_at t.columns.items t.places.items in
    let all : List ℕ = range_with_len 0 (length t.places.items) in
    let lt = comes_before keys_of_row number_of_row (directions_of t.columns.items) in
    let passes = comes_after keys_of_row number_of_row (directions_of t.columns.items) after in
    let sorted : filter passes (in_order lt (map at all)) ≡ map at (in_order (is_before t) (filter (is_after t after) all)) =
    ap (filter passes) (in_order-map at lt all) ∙ (filter-map at passes (in_order (is_before t) all) ∙ ap (map at) (filter-in_order (is_before t) (is_after t after) (goes_up t after o) all)) in
    ap (map at) (drop-take from size (in_order (is_before t) (filter (is_after t after) all)))
    ∙ sym (ap (λ rows. take size (drop from rows)) sorted ∙ (ap (take size) (drop-map at from _) ∙ take-map at size _))

-- the page of a table that is seen as this value: what was selected
pub page_found : (t made : Table) (value : KeyTable) (after : Option KeyRow) (from size : ℕ) (page : List ℕ) → IsStrictWeakOrder (comes_before keys_of_row number_of_row (directions_of t.columns.items)) → table_of t.columns.items t.places.items ≡ value → page ≡ drop from (first_of (is_before t) (from + size) (filter (is_after t after) (range_with_len 0 (length t.places.items)))) → table_of made.columns.items made.places.items ≡ record { directions = directions_of t.columns.items; rows = map (row_at t.columns.items t.places.items) page } → (table_of made.columns.items made.places.items).rows ≡ page_of keys_of_row number_of_row value.directions after from size value.rows
page_found t made value after from size page o seen is gathered =
    ap (λ (table : KeyTable). table.rows) gathered
    ∙ (ap (map (row_at t.columns.items t.places.items)) is
    ∙ (selected_page t after from size o ∙ ap (λ (table : KeyTable). page_of keys_of_row number_of_row table.directions after from size table.rows) seen))
