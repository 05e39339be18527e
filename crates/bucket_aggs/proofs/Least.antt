-- The first of some values is the first of the numbers that they are, in whatever order these are looked at.
use Rattle.std.proofs.Common.{◌≡◌, ℕ, zero, suc, ℤ, ◌<◌, Bool, false, List, [], ◌∷◌, length, map, get_or, Option, Some, None, refl, sym, ap, subst, ◌∙◌, arith}
use Rattle.std.specs.Cmp.{IsStrictWeakOrder}
use Rattle.std.specs.List.{All, Contains, best_of}
use Rattle.std.specs.List.Sorted.{IsPermutation}
use Rattle.std.specs.Ordering.{int_cmp, is_eq}
use Rattle.std.proofs.lemmas.Bool.{false≢true}
use Rattle.std.proofs.lemmas.Cmp.{int_cmp_total}
use Rattle.std.proofs.lemmas.List.{get_or_default, length-map}
use Rattle.std.proofs.lemmas.List.Elements.{All-contains, All-from_recursion, Contains-get_or}
use Rattle.std.proofs.lemmas.List.MinMax.{IsFirstBest-from_best_of, IsStrictWeakOrder-flip}
use Rattle.std.proofs.lemmas.List.Sorted.{Contains-permutation, IsPermutation-sym, length_permutation, ranks_by}
use Rattle.std.proofs.lemmas.Map.Lookups.{exact_signed}
use Rattle.query_ast.specs.Buckets.{number_if}
use Rattle.query_ast.specs.Compare.{is_less}
use Rattle.query_ast.specs.SortKey.{greatest_value, is_greater, least_value, number_in}
use Rattle.tree_objects.specs.declared.field_value.FieldValue.{FieldValue}
use Rattle.tree_objects.specs.declared.field_value.FieldValue.TheVariants.{Number}
use Rattle.bucket_aggs.specs.Sums.{IsFirst, above, below}
use Rattle.query_ast.proofs.Keys.{greater_is, same_is}
use Rattle.query_ast.proofs.Elements.{Each, by_test}
use Rattle.query_ast.proofs.Values.{value_total}

-- two numbers of which neither comes before the other
level : (a b : ℤ) → below a b ≡ false → below b a ≡ false → a ≡ b
level a b one other =
    by_test (is_eq (int_cmp a b))
    (λ held. same_is int_cmp int_cmp_total exact_signed a b held)
    (λ failed. absurd (false≢true (sym other ∙ greater_is int_cmp int_cmp_total exact_signed a b one failed)))

module _ (before : ℤ → ℤ → Bool) (beats : FieldValue → FieldValue → Bool) (alike : (a b : ℤ) → before a b ≡ false → before b a ≡ false → a ≡ b) (numbers : (a b : ℤ) → beats (Number a) (Number b) ≡ before a b) (order : IsStrictWeakOrder beats) where
  abbrev IsBehind : ℤ → FieldValue → Type 0
  IsBehind z v = (w : ℤ) × (v ≡ Number w) × (before w z ≡ false)

  all_behind : (zs : List ℤ) (z : ℤ) → Each (λ (x : ℤ). before x z ≡ false) zs → Each (IsBehind z) (map Number zs)
  all_behind [] z h = tt
  all_behind (x ∷ zs) z h = ((x, refl, h.0), all_behind zs z h.1)

  contains_number : (zs : List ℤ) (z : ℤ) → Contains zs z → Contains (map Number zs) (Number z)
  contains_number [] z is = absurd (omega (arith, is.1))
  contains_number (x ∷ zs) z is = by (λ there. contains_number zs z there) is.0 is.1 is.2
    where
      by : (Contains zs z → Contains (map Number zs) (Number z)) → (k : ℕ) → k < length (x ∷ zs) → get_or (x ∷ zs) k z ≡ z → Contains (map Number (x ∷ zs)) (Number z)
      by on zero low at = (0, omega arith, ap Number at)
      by on (suc k) low at =
          let rest : Contains (map Number zs) (Number z) = on (k, omega (arith, low), at) in
          (suc rest.0, omega (arith, rest.1), rest.2)

  pub first_value : (v : FieldValue) (vs : List FieldValue) (zs : List ℤ) (z : ℤ) → IsPermutation (v ∷ vs) (map Number zs) → IsFirst before zs (Some z) → number_in (best_of beats v vs) ≡ z
  first_value v vs zs z same is =
      let best = IsFirstBest-from_best_of order v vs in
      let top : FieldValue = best_of beats v vs in
      let there : Contains (v ∷ vs) top = subst (Contains (v ∷ vs)) best.2 (Contains-get_or (v ∷ vs) best.0 v best.1.0) in
      let behind : IsBehind z top =
      All-contains (IsBehind z) (map Number zs) top (All-from_recursion (IsBehind z) (map Number zs) (all_behind zs z is.1)) (Contains-permutation (v ∷ vs) (map Number zs) top same there) in
      let own : Contains (v ∷ vs) (Number z) =
      Contains-permutation (map Number zs) (v ∷ vs) (Number z) (IsPermutation-sym (v ∷ vs) (map Number zs) same) (contains_number zs z is.0) in
      let least : All (λ (x : FieldValue). beats x (get_or (v ∷ vs) best.0 v) ≡ false) (v ∷ vs) =
      λ k d low. each_at best.0 best.1.0 best.1.1 k d low in
      let not_less : beats (Number z) top ≡ false = ap (beats (Number z)) (sym best.2) ∙ All-contains (λ (x : FieldValue). beats x (get_or (v ∷ vs) best.0 v) ≡ false) (v ∷ vs) (Number z) least own in
      let w : ℤ = behind.0 in
      let one : before z w ≡ false = sym (numbers z w) ∙ ap (beats (Number z)) (sym behind.1) ∙ not_less in
      ap number_in behind.1 ∙ alike w z behind.2 one
    where
      each_at : (i : ℕ) → i < length (v ∷ vs) → ((k : ℕ) (d : FieldValue) → k < length (v ∷ vs) → beats (get_or (v ∷ vs) k d) (get_or (v ∷ vs) i d) ≡ false) → (k : ℕ) (d : FieldValue) → k < length (v ∷ vs)
          → beats (get_or (v ∷ vs) k d) (get_or (v ∷ vs) i v) ≡ false
      each_at i inside all k d low = ap (beats (get_or (v ∷ vs) k d)) (get_or_default (v ∷ vs) i v d inside) ∙ all k d low

-- ---- the least and the greatest

pub least_is : (vs : List FieldValue) (zs : List ℤ) (first : Option ℤ) → IsPermutation vs (map Number zs) → IsFirst below zs first → number_if (least_value vs) ≡ first
least_is [] [] None same is = refl
least_is [] (x ∷ zs) None same is = refl
least_is [] zs (Some z) same is = absurd (omega (arith, length_permutation [] (map Number zs) same, length-map zs Number, is.0.1))
least_is (v ∷ vs) zs None same is = absurd (omega (arith, length_permutation (v ∷ vs) (map Number zs) same, length-map zs Number, ap length is))
least_is (v ∷ vs) zs (Some z) same is = ap Some (first_value below is_less level (λ a b. refl) (ranks_by value_total (λ (x : FieldValue). x)) v vs zs z same is)

pub greatest_is : (vs : List FieldValue) (zs : List ℤ) (first : Option ℤ) → IsPermutation vs (map Number zs) → IsFirst above zs first → number_if (greatest_value vs) ≡ first
greatest_is [] [] None same is = refl
greatest_is [] (x ∷ zs) None same is = refl
greatest_is [] zs (Some z) same is = absurd (omega (arith, length_permutation [] (map Number zs) same, length-map zs Number, is.0.1))
greatest_is (v ∷ vs) zs None same is = absurd (omega (arith, length_permutation (v ∷ vs) (map Number zs) same, length-map zs Number, ap length is))
greatest_is (v ∷ vs) zs (Some z) same is =
    ap Some (first_value above is_greater (λ a b one other. level a b other one) (λ a b. refl) (IsStrictWeakOrder-flip is_less (ranks_by value_total (λ (x : FieldValue). x))) v vs zs z same is)
