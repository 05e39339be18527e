-- The ordinals of a document, each counted once.
use Rattle.std.proofs.Common.{◌≡◌, ℕ, ◌+◌, ◌==◌, Bool, true, false, ◌&&◌, cond, List, [], ◌∷◌, length, slice_get, count_by, Option, Some, None, refl, sym, ap, ◌∙◌, arith}
use Rattle.std.specs.List.{list_any}
use Rattle.std.specs.List.Sorted.{IsSorted}
use Rattle.std.specs.Ordering.{is_eq, nat_cmp}
use Rattle.std.specs.declared.cmp.Ordering.{Ordering}
use Rattle.std.specs.declared.cmp.Ordering.TheVariants.{Less, Equal, Greater}
use Rattle.std.proofs.lemmas.Bool.{eq-eqb, eqb-true, false≢true}
use Rattle.std.proofs.lemmas.Cmp.{nat_cmp_total, tied_itself}
use Rattle.std.proofs.lemmas.Map.Lookups.{exact_unsigned}
use Rattle.std.proofs.lemmas.Option.{same_Some}
use Rattle.bucket_aggs.specs.Counts.{has_ordinal, is_again, once_after}
use Rattle.query_ast.proofs.Elements.{by_test}
use Rattle.bucket_aggs.proofs.Lists.{any_same}
use Rattle.bucket_aggs.proofs.Onces.{once_counts, sorted_up}
use Rattle.bucket_aggs.proofs.Rowed.{count_cons}

abbrev pub is_one : ℕ → ℕ → Bool
is_one a b = is_eq (nat_cmp a b)

-- how often an ordinal is still to be counted: once, if it is left and was not just met
abbrev pub one_left : ℕ → Option ℕ → List ℕ → ℕ
one_left x before ordinals = count_by (is_one x) (once_after is_one before ordinals)

pub one_is : (x ordinal : ℕ) → is_one x ordinal ≡ (ordinal == x)
one_is x ordinal =
    by_test (ordinal == x)
    (λ held.
    let same : ordinal ≡ x = eqb-true ordinal x held in
    ap (is_one x) same ∙ ap is_eq (tied_itself nat_cmp_total x) ∙ sym held)
    (λ failed. by_test (is_one x ordinal)
    (λ one. absurd (false≢true (sym failed ∙ eq-eqb ordinal x (sym (exact_unsigned x ordinal (equal_of (nat_cmp x ordinal) one))))))
    (λ other. other ∙ sym failed))
  where
    equal_of : (o : Ordering) → is_eq o ≡ true → o ≡ Equal
    equal_of Less h = absurd (let no : ⊥ = cc in no)
    equal_of Equal h = refl
    equal_of Greater h = absurd (let no : ⊥ = cc in no)

and_true : (b : Bool) → (b && true) ≡ b
and_true true = refl
and_true false = refl

pub left_at_start : (x : ℕ) (ordinals : List ℕ) → IsSorted nat_cmp ordinals → one_left x None ordinals ≡ cond (has_ordinal x ordinals) 1 0
left_at_start x ordinals up =
    once_counts nat_cmp nat_cmp_total exact_unsigned x None ordinals (sorted_up nat_cmp nat_cmp_total exact_unsigned ordinals up) tt
    ∙ ap (λ (b : Bool). cond {A = ℕ} b 1 0) (and_true (list_any (is_one x) ordinals) ∙ any_same (is_one x) (λ own. own == x) (one_is x) ordinals)

pub left_again : (x ordinal : ℕ) (before : Option ℕ) (rest : List ℕ) → is_again is_one before ordinal ≡ true → one_left x before (ordinal ∷ rest) ≡ one_left x before rest
left_again x ordinal before rest is = rw is refl

pub left_new : (x ordinal : ℕ) (before : Option ℕ) (rest : List ℕ) → is_again is_one before ordinal ≡ false → one_left x before (ordinal ∷ rest) ≡ cond (ordinal == x) 1 0 + one_left x (Some ordinal) rest
left_new x ordinal before rest is =
    rw is (count_cons (is_one x) ordinal (once_after is_one (Some ordinal) rest) ∙ ap (λ (b : Bool). cond {A = ℕ} b 1 0 + one_left x (Some ordinal) rest) (one_is x ordinal))

-- one ordinal is counted as the list of it is
pub one_alone : (x ordinal : ℕ) → count_by (has_ordinal x) ((ordinal ∷ []) ∷ []) ≡ cond (ordinal == x) 1 0
one_alone x ordinal = by_test (ordinal == x) (λ held. rw held refl) (λ failed. rw failed refl)

pub list_alone : (x : ℕ) (ordinals : List ℕ) → count_by (has_ordinal x) (ordinals ∷ []) ≡ cond (has_ordinal x ordinals) 1 0
list_alone x ordinals = by_test (has_ordinal x ordinals) (λ held. rw held refl) (λ failed. rw failed refl)

-- a document with one ordinal alone
pub the_only : {A : Type 0} (values : List A) (value : A) → length values ≡ 1 → slice_get values 0 ≡ Some value → values ≡ value ∷ []
the_only [] value one first = absurd (omega (arith, one))
the_only (x ∷ []) value one first = ap (λ v. v ∷ []) (same_Some x value first)
the_only (x ∷ y ∷ rest) value one first = absurd (omega (arith, one))
