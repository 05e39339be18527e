-- The order of rows is one: any two compare, and it goes on from row to row.
use Rattle.std.specs.Prelude.{◌≡◌, ℤ, Bool, true, false, List, [], ◌∷◌, refl}
use Rattle.std.specs.Cmp.{IsStrictWeakOrder, IsTotalOrder, nat_cmp_total, int_cmp_total, on_total, back_total, then_total}
use Rattle.std.specs.Cmp.Lexicographic.{nat_list_cmp_total}
use Rattle.std.specs.Ordering.{ordering_reverse}
use Rattle.std.specs.declared.cmp.Ordering.TheVariants.{Less, Equal}
use Rattle.std.proofs.lemmas.List.Sorted.{ranks_by}
use Rattle.tree_objects.specs.declared.field_value.FieldValue.{FieldValue}
use Rattle.tree_objects.specs.declared.field_value.FieldValue.TheVariants.{Number, Written}
use Rattle.query_ast.specs.Compare.{value_cmp}
use Rattle.query_ast.specs.Page.{rank, shown, directed, key_cmp, first_key, later_keys, keys_cmp, place_cmp, comes_before}
use Rattle.query_ast.specs.declared.sort.Direction.{Direction}
use Rattle.query_ast.specs.declared.sort.Key.{Key}

value_antisymm : (x y : FieldValue) → value_cmp x y ≡ ordering_reverse (value_cmp y x)
value_antisymm (Number a) (Number b) = int_cmp_total.antisymm a b
value_antisymm (Number a) (Written t) = refl
value_antisymm (Written s) (Number b) = refl
value_antisymm (Written s) (Written t) = nat_list_cmp_total.antisymm s t

value_trans : (x y z : FieldValue) → value_cmp x y ≡ Less → value_cmp y z ≡ Less → value_cmp x z ≡ Less
value_trans (Number a) (Number b) (Number c) p q = int_cmp_total.trans a b c p q
value_trans (Number a) (Number b) (Written u) p q = refl
value_trans (Number a) (Written t) (Number c) p q = cc
value_trans (Number a) (Written t) (Written u) p q = refl
value_trans (Written s) (Number b) z p q = cc
value_trans (Written s) (Written t) (Number c) p q = q
value_trans (Written s) (Written t) (Written u) p q = nat_list_cmp_total.trans s t u p q

value_congr : (x y z : FieldValue) → value_cmp x y ≡ Equal → value_cmp x z ≡ value_cmp y z
value_congr (Number a) (Number b) (Number c) p = int_cmp_total.congr a b c p
value_congr (Number a) (Number b) (Written u) p = refl
value_congr (Number a) (Written t) z p = cc
value_congr (Written s) (Number b) z p = cc
value_congr (Written s) (Written t) (Number c) p = refl
value_congr (Written s) (Written t) (Written u) p = nat_list_cmp_total.congr s t u p

pub value_total : IsTotalOrder value_cmp
value_total = record { antisymm = value_antisymm; trans = value_trans; congr = value_congr }

directed_total : (descending : Bool) → IsTotalOrder (directed descending)
directed_total true = back_total (on_total shown value_total)
directed_total false = on_total shown value_total

key_total : (d : Direction) → IsTotalOrder (key_cmp d)
key_total d = then_total (on_total (rank d.null_first) nat_cmp_total) (directed_total d.descending)

keys_total : (ds : List Direction) → IsTotalOrder (keys_cmp ds)
keys_total [] = record { antisymm = λ a b. refl; trans = λ a b c p q. p; congr = λ a b c p. refl }
keys_total (d ∷ ds) = then_total (on_total first_key (key_total d)) (on_total later_keys (keys_total ds))

pub places_total : (ds : List Direction) → IsTotalOrder (place_cmp ds)
places_total ds = then_total (on_total (λ (a : List Key × ℤ). a.0) (keys_total ds)) (on_total (λ (a : List Key × ℤ). a.1) int_cmp_total)

pub rows_rank : {A : Type 0} (keys : A → List Key) (number : A → ℤ) (ds : List Direction) → IsStrictWeakOrder (comes_before keys number ds)
rows_rank keys number ds = ranks_by (places_total ds) (λ row. (keys row, number row))
