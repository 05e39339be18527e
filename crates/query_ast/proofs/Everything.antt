-- The search for everything finds the live trees as they stand.
use Rattle.std.specs.Prelude.{◌≡◌, ℕ, ◌<◌, ℤ, pos, Bool, true, false, List, [], ◌∷◌, length, map, take, filter, None, refl}
use Rattle.std.specs.Cmp.{int_cmp_is}
use Rattle.std.specs.List.{AllByRecursion}
use Rattle.std.specs.Ordering.{is_lt, int_cmp}
use Rattle.std.specs.declared.cmp.Ordering.TheVariants.{Equal}
use Rattle.std.proofs.Common.{arith, ap, sym, ◌∙◌}
use Rattle.std.proofs.lemmas.Bool.{le-ltb, lt-ltb}
use Rattle.std.proofs.lemmas.List.{length-map, take-map}
use Rattle.mapping.specs.Mapping.{Mapping}
use Rattle.tree_objects.specs.Object.{root}
use Rattle.tree_objects.specs.Tree.{Tree, IsLiveList}
use Rattle.query_ast.specs.Clause.{leaf, match_all}
use Rattle.query_ast.specs.Compare.{in_order}
use Rattle.query_ast.specs.Joined.{roots}
use Rattle.query_ast.specs.Leaf.{leaf_holds}
use Rattle.query_ast.specs.Page.{comes_before, direction_of, page_of}
use Rattle.query_ast.specs.Rows.{Row, keys_of, number_of, rows_of, paged}
use Rattle.query_ast.specs.Search.{hit_page, everything, whole_hit, by_score, hit_of}
use Rattle.query_ast.specs.SortKey.{sort_key}
use Rattle.query_ast.specs.declared.sort.Direction.{Direction}
use Rattle.query_ast.specs.declared.sort.Key.TheVariants.{Number}
use Rattle.query_ast.proofs.Sorting.{all_as, Rises, rising_is_sorted, sorted_is_in_order}
use Rattle.query_ast.proofs.Orders.{rows_rank}

-- the row of a tree
abbrev row : ℕ → Tree → Row
row boost tree = record { object = root tree; score = boost; keys = Number (pos boost) ∷ [] }

abbrev down : List Direction
down = direction_of by_score ∷ []

rows_are : (m : Mapping) (live trees : List Tree) (boost : ℕ) → rows_of m live (leaf match_all boost) (by_score ∷ []) (roots trees) ≡ map (row boost) trees
unfolding rows_of leaf_holds sort_key
rows_are m live [] boost = refl
rows_are m live (tree ∷ trees) boost = ap (λ rest. row boost tree ∷ rest) (rows_are m live trees boost)

level : (z : ℤ) → int_cmp z z ≡ Equal
level z = sym (int_cmp_is z z Equal refl)

later_number : (a b : ℕ) → a < b → is_lt (int_cmp (pos b) (pos a)) ≡ false
later_number a b h = rw (le-ltb b a (omega arith), lt-ltb a b h) refl

later : (boost : ℕ) (a b : Tree) → a.number < b.number → comes_before keys_of number_of down (row boost b) (row boost a) ≡ false
later boost a b h = rw (level (pos boost)) (later_number a.number b.number h)

all_later : (boost : ℕ) (a : Tree) (trees : List Tree) → AllByRecursion (λ (b : Tree). a.number < b.number) trees → AllByRecursion (λ y. comes_before keys_of number_of down y (row boost a) ≡ false) (map (row boost) trees)
all_later boost a [] h = tt
all_later boost a (b ∷ trees) h = (later boost a b h.0, all_later boost a trees h.1)

rows_rise : (boost : ℕ) (trees : List Tree) → IsLiveList trees → Rises (comes_before keys_of number_of down) (map (row boost) trees)
rows_rise boost [] live = tt
rows_rise boost (a ∷ trees) live = (all_later boost a trees (all_as (λ b h. h.0) trees live.0), rows_rise boost trees live.1)

rows_stay : (boost : ℕ) (trees : List Tree) → IsLiveList trees → in_order (comes_before keys_of number_of down) (map (row boost) trees) ≡ map (row boost) trees
rows_stay boost trees live =
    sym (sorted_is_in_order (rows_rank keys_of number_of down) (map (row boost) trees) (map (row boost) trees)
    (rising_is_sorted (comes_before keys_of number_of down) (map (row boost) trees) (rows_rise boost trees live)) (λ x. refl))

all_kept : {A : Type 0} (xs : List A) → filter (λ x. true) xs ≡ xs
all_kept [] = refl
all_kept (x ∷ xs) = ap (λ ys. x ∷ ys) (all_kept xs)

first_rows : (m : Mapping) (live : List Tree) (boost size : ℕ) → IsLiveList live → paged (by_score ∷ []) None 0 size (rows_of m live (leaf match_all boost) (by_score ∷ []) (roots live)) ≡ map (row boost) (take size live)
unfolding page_of
first_rows m live boost size h =
    let rows = rows_of m live (leaf match_all boost) (by_score ∷ []) (roots live) in
    let order = in_order (comes_before keys_of number_of down) in
    let sorted : order rows ≡ map (row boost) live = ap order (rows_are m live live boost) ∙ rows_stay boost live h in
    let page : take size (filter (λ x. true) (order rows)) ≡ take size (map (row boost) live) = ap (take size) (all_kept (order rows) ∙ sorted) in
    page ∙ take-map (row boost) size live

whole_hits : (m : Mapping) (live trees : List Tree) (boost size : ℕ) (source : Bool) → map (hit_of m live (everything boost size source)) (map (row boost) trees) ≡ map (whole_hit boost source) trees
whole_hits m live [] boost size source = refl
whole_hits m live (tree ∷ trees) boost size source = ap (λ rest. whole_hit boost source tree ∷ rest) (whole_hits m live trees boost size source)

pub everything_found : (m : Mapping) (live : List Tree) (boost size : ℕ) (source : Bool) → IsLiveList live → hit_page m live (everything boost size source) ≡ record { hits = map (whole_hit boost source) (take size live); total = length live }
unfolding hit_page
everything_found m live boost size source h =
    let of_row = hit_of m live (everything boost size source) in
    let hits = ap (map of_row) (first_rows m live boost size h) ∙ whole_hits m live (take size live) boost size source in
    let total = ap length (rows_are m live live boost) ∙ length-map live (row boost) in
    λ i. record { hits = hits i; total = total i }
