-- The middle of numbers: a stable sort puts them in the order of values.
use Rattle.std.specs.Prelude.{◌≡◌, ℕ, zero, suc, ◌+◌, ◌-◌, ◌/◌, ℤ, pos, ◌+ℤ◌, Bool, true, false, List, [], ◌∷◌, map, filter, length, get_or, if◌then◌else◌, refl}
use Rattle.std.specs.Ordering.{int_cmp, is_lt, ordering_then}
use Rattle.std.specs.declared.cmp.Ordering.{Ordering}
use Rattle.std.specs.declared.cmp.Ordering.TheVariants.{Less, Equal, Greater}
use Rattle.std.specs.List.Sorted.{IsSortedBy, IsStableBy, ties}
use Rattle.std.specs.Prelude.{FitsSigned}
use Rattle.std.specs.Int.{w64}
use Rattle.std.proofs.Common.{arith, ap, sym, ◌∙◌, to_z, of_z}
use Rattle.std.proofs.lemmas.Int.{ints}
use Rattle.std.proofs.lemmas.List.{length-map}
use Rattle.nested_sort.specs.Documents.{number_value}
use Rattle.query_ast.specs.Compare.{placed, in_order, is_less}
use Rattle.query_ast.specs.Page.{comes_before}
use Rattle.query_ast.specs.SortKey.{median, number_at}
use Rattle.query_ast.specs.declared.sort.Direction.{Direction}
use Rattle.query_ast.specs.declared.sort.Key.{Key}
use Rattle.query_ast.specs.declared.sort.Key.TheVariants.{Number as NumberKey}
use Rattle.score_math.specs.Integers.{floor_div}
use Rattle.tree_objects.specs.declared.field_value.FieldValue.TheVariants.{Number}

split : {G : Type 0} (t : Bool) → (t ≡ true → G) → (t ≡ false → G) → G
split true held failed = held refl
split false held failed = failed refl

-- numbers as rows with one ascending key
abbrev pub own_key : ℤ → List Key
own_key z = NumberKey z ∷ []

abbrev pub no_number : ℤ → ℤ
no_number z = pos 0

abbrev pub ascending : List Direction
ascending = record { descending = false; null_first = false } ∷ []

abbrev pub less : ℤ → ℤ → Bool
less x y = is_lt (int_cmp x y)

abbrev pub row_less : ℤ → ℤ → Bool
row_less x y = comes_before own_key no_number ascending x y

nothing_more : (o : Ordering) → is_lt (ordering_then (ordering_then o Equal) Equal) ≡ is_lt o
nothing_more Less = refl
nothing_more Equal = refl
nothing_more Greater = refl

same_less : (x y : ℤ) → row_less x y ≡ less x y
same_less x y = nothing_more (int_cmp x y)

same_filter : {A : Type 0} (p q : A → Bool) → ((a : A) → p a ≡ q a) → (xs : List A) → filter p xs ≡ filter q xs
same_filter p q same [] = refl
same_filter p q same (x ∷ xs) = rw (same x) (ap (λ ys. if q x then x ∷ ys else ys) (same_filter p q same xs))

sorted_rows : (xs : List ℤ) → IsSortedBy less xs → IsSortedBy row_less xs
sorted_rows xs up k d from to = same_less (get_or xs (k + 1) d) (get_or xs k d) ∙ up k d from to

tied : (z x : ℤ) → ties row_less z x ≡ ties less z x
tied z x = rw (same_less z x, same_less x z) refl

stable_rows : (xs ys : List ℤ) → IsStableBy less xs ys → IsStableBy row_less xs ys
stable_rows xs ys stable z =
    same_filter (ties row_less z) (ties less z) (tied z) ys ∙ (stable z ∙ sym (same_filter (ties row_less z) (ties less z) (tied z) xs))

same_placed : (x : ℤ) (ys : List ℤ) → placed is_less (Number x) (map number_value ys) ≡ map number_value (placed row_less x ys)
same_placed x [] = refl
same_placed x (y ∷ ys) =
    split (less y x)
    (λ yes. let behind : row_less y x ≡ true = same_less y x ∙ yes in rw (yes, behind) (ap (λ zs. Number y ∷ zs) (same_placed x ys)))
    (λ no. let before : row_less y x ≡ false = same_less y x ∙ no in rw (no, before) refl)

pub same_order : (xs : List ℤ) → in_order is_less (map number_value xs) ≡ map number_value (in_order row_less xs)
same_order [] = refl
same_order (x ∷ xs) = ap (placed is_less (Number x)) (same_order xs) ∙ same_placed x (in_order row_less xs)

-- what a stable sort gives
pub sorted_numbers : ((rows sorted : List ℤ) → IsSortedBy row_less sorted → IsStableBy row_less rows sorted → sorted ≡ in_order row_less rows) → (xs ys : List ℤ) → IsSortedBy less ys → IsStableBy less xs ys → in_order is_less (map number_value xs) ≡ map number_value ys
sorted_numbers only xs ys up stable = same_order xs ∙ ap (map number_value) (sym (only xs ys (sorted_rows ys up) (stable_rows xs ys stable)))

number_found : (ys : List ℤ) (at : ℕ) → number_at at (map number_value ys) ≡ get_or ys at (pos 0)
number_found [] at = refl
number_found (y ∷ ys) zero = refl
number_found (y ∷ ys) (suc at) = number_found ys at

pub middle_found : ((rows sorted : List ℤ) → IsSortedBy row_less sorted → IsStableBy row_less rows sorted → sorted ≡ in_order row_less rows) → (xs ys : List ℤ) → IsSortedBy less ys → IsStableBy less xs ys → length ys ≡ length xs
    → (low high found : ℤ) → low ≡ get_or ys ((length ys - 1) / 2) (pos 0) → high ≡ get_or ys (length ys / 2) (pos 0) → found ≡ floor_div (low +ℤ high) 2 → found ≡ median (map number_value xs)
middle_found only xs ys up stable count low high found first second is =
    let order : in_order is_less (map number_value xs) ≡ map number_value ys = sorted_numbers only xs ys up stable in
    let long : length (map number_value xs) ≡ length ys = length-map xs number_value ∙ sym count in
    is
    ∙ ap (λ z. floor_div (z +ℤ high) 2) (first ∙ sym (number_found ys ((length ys - 1) / 2)))
    ∙ ap (λ z. floor_div (number_at ((length ys - 1) / 2) (map number_value ys) +ℤ z) 2) (second ∙ sym (number_found ys (length ys / 2)))
    ∙ ap (λ vs. floor_div (number_at ((length ys - 1) / 2) vs +ℤ number_at (length ys / 2) vs) 2) (sym order)
    ∙ ap (λ n. floor_div (number_at ((n - 1) / 2) (in_order is_less (map number_value xs)) +ℤ number_at (n / 2) (in_order is_less (map number_value xs))) 2) (sym long)

pub median_is : (xs ys slice : List ℤ) (found : ℤ) → FitsSigned w64 found → ((rows sorted : List ℤ) → IsSortedBy row_less sorted → IsStableBy row_less rows sorted → sorted ≡ in_order row_less rows) → IsSortedBy less ys → IsStableBy less xs ys → slice ≡ ys → length ys ≡ length xs
    → found ≡ floor_div (get_or slice ((length slice - 1) / 2) (pos 0) +ℤ get_or slice (length slice / 2) (pos 0)) 2 → to_z w64 (of_z w64 found) ≡ median (map number_value xs)
median_is xs ys slice found fits only up stable same count is =
    let plain : to_z w64 (of_z w64 found) ≡ found = omega (arith, ints) in
    plain
    ∙ middle_found only xs ys up stable count (get_or ys ((length ys - 1) / 2) (pos 0)) (get_or ys (length ys / 2) (pos 0)) found refl refl
    (is ∙ ap (λ (l : List ℤ). floor_div (get_or l ((length l - 1) / 2) (pos 0) +ℤ get_or l (length l / 2) (pos 0)) 2) same)
