-- The order of values: it is total, and values of which neither comes first are the same.
use Rattle.std.specs.Prelude.{◌≡◌, ℕ, ◌<◌, ℤ, ◌<ℤ◌, false, List, [], ◌∷◌, refl}
use Rattle.std.specs.Ordering.{int_cmp, nat_cmp, is_lt, ordering_reverse}
use Rattle.std.specs.declared.cmp.Ordering.{Ordering}
use Rattle.std.specs.declared.cmp.Ordering.TheVariants.{Less, Equal, Greater}
use Rattle.std.specs.Cmp.{IsTotalOrder, IsStrictWeakOrder}
use Rattle.std.specs.Cmp.Lexicographic.{slice_cmp}
use Rattle.std.proofs.Common.{ap, sym, ◌∙◌}
use Rattle.std.proofs.lemmas.Bool.{false≢true}
use Rattle.std.proofs.lemmas.Cmp.{int_cmp_total, nat_list_cmp_total, ranked, int_ranked, by_ranked}
use Rattle.std.proofs.lemmas.List.MinMax.{ranks_by, IsStrictWeakOrder-flip}
use Rattle.query_ast.specs.Compare.{value_cmp, is_less}
use Rattle.query_ast.specs.SortKey.{is_greater}
use Rattle.tree_objects.specs.declared.field_value.FieldValue.{FieldValue}
use Rattle.tree_objects.specs.declared.field_value.FieldValue.TheVariants.{Number, Written}

turned : (x y : FieldValue) → value_cmp x y ≡ ordering_reverse (value_cmp y x)
turned (Number a) (Number b) = int_cmp_total.antisymm a b
turned (Number a) (Written t) = refl
turned (Written s) (Number b) = refl
turned (Written s) (Written t) = nat_list_cmp_total.antisymm s t

goes_on : (x y z : FieldValue) → value_cmp x y ≡ Less → value_cmp y z ≡ Less → value_cmp x z ≡ Less
goes_on (Number a) (Number b) (Number c) p q = int_cmp_total.trans a b c p q
goes_on (Number a) (Number b) (Written u) p q = refl
goes_on (Number a) (Written t) (Number c) p q = absurd (let no : ⊥ = cc in no)
goes_on (Number a) (Written t) (Written u) p q = refl
goes_on (Written s) (Number b) z p q = absurd (let no : ⊥ = cc in no)
goes_on (Written s) (Written t) (Number c) p q = absurd (let no : ⊥ = cc in no)
goes_on (Written s) (Written t) (Written u) p q = nat_list_cmp_total.trans s t u p q

alike : (x y z : FieldValue) → value_cmp x y ≡ Equal → value_cmp x z ≡ value_cmp y z
alike (Number a) (Number b) (Number c) p = int_cmp_total.congr a b c p
alike (Number a) (Number b) (Written u) p = refl
alike (Number a) (Written t) z p = absurd (let no : ⊥ = cc in no)
alike (Written s) (Number b) z p = absurd (let no : ⊥ = cc in no)
alike (Written s) (Written t) (Number c) p = refl
alike (Written s) (Written t) (Written u) p = nat_list_cmp_total.congr s t u p

pub value_total : IsTotalOrder value_cmp
value_total = record { antisymm = turned; trans = goes_on; congr = alike }

-- neither comes first
neither : {K : Type 0} (R : K → K → Ordering) → IsTotalOrder R → (x y : K) → is_lt (R x y) ≡ false → is_lt (R y x) ≡ false → R x y ≡ Equal
neither {K} R o x y p q = by (R x y) refl
  where
    by : (r : Ordering) → R x y ≡ r → R x y ≡ Equal
    by Less is = absurd (false≢true (sym p ∙ ap is_lt is))
    by Equal is = is
    by Greater is = absurd (false≢true (sym q ∙ ap is_lt (o.antisymm y x ∙ ap ordering_reverse is)))

same_bytes : (s t : List ℕ) → slice_cmp nat_cmp s t ≡ Equal → s ≡ t
same_bytes [] [] e = refl
same_bytes [] (y ∷ ys) e = absurd (let no : ⊥ = cc in no)
same_bytes (x ∷ xs) [] e = absurd (let no : ⊥ = cc in no)
same_bytes (x ∷ xs) (y ∷ ys) e =
    by_ranked (x < y) (x ≡ y) (y < x) (nat_cmp x y) (ranked x y (nat_cmp x y) refl)
    (λ is less. absurd (let one : Less ≡ Equal = rw is at e in let no : ⊥ = cc in no))
    (λ is same. let rest : xs ≡ ys = same_bytes xs ys (rw is at e) in cc)
    (λ is more. absurd (let one : Greater ≡ Equal = rw is at e in let no : ⊥ = cc in no))

same_number : (a b : ℤ) → int_cmp a b ≡ Equal → a ≡ b
same_number a b e =
    by_ranked (a <ℤ b) (a ≡ b) (b <ℤ a) (int_cmp a b) (int_ranked a b (int_cmp a b) refl)
    (λ is less. absurd (let one : Less ≡ Equal = sym is ∙ e in let no : ⊥ = cc in no))
    (λ is same. same)
    (λ is more. absurd (let one : Greater ≡ Equal = sym is ∙ e in let no : ⊥ = cc in no))

pub same_value : (x y : FieldValue) → is_less x y ≡ false → is_less y x ≡ false → x ≡ y
same_value (Number a) (Number b) p q = ap (λ z. Number z) (same_number a b (neither int_cmp int_cmp_total a b p q))
same_value (Number a) (Written t) p q = absurd (false≢true (sym p))
same_value (Written s) (Number b) p q = absurd (false≢true (sym q))
same_value (Written s) (Written t) p q = ap (λ bytes. Written bytes) (same_bytes s t (neither (slice_cmp nat_cmp) nat_list_cmp_total s t p q))

pub less_orders : IsStrictWeakOrder is_less
less_orders = ranks_by value_total (λ (v : FieldValue). v)

pub greater_orders : IsStrictWeakOrder is_greater
greater_orders = IsStrictWeakOrder-flip is_less less_orders

pub same_greater : (x y : FieldValue) → is_greater x y ≡ false → is_greater y x ≡ false → x ≡ y
same_greater x y p q = same_value x y q p
