-- Ascending numbers without those that are equal to the one before: each number stands there once.
use Rattle.std.proofs.Common.{◌≡◌, ℕ, suc, ◌+◌, Bool, true, false, ◌&&◌, not, cond, List, [], ◌∷◌, get_or, count_by, Option, Some, None, refl, sym, ap, ◌∙◌, arith}
use Rattle.std.specs.List.{list_any}
use Rattle.std.specs.List.Sorted.{IsSortedBy}
use Rattle.std.specs.Cmp.{IsTotalOrder}
use Rattle.std.specs.Ordering.{is_eq, is_lt}
use Rattle.std.specs.declared.cmp.Ordering.{Ordering}
use Rattle.std.specs.declared.cmp.Ordering.TheVariants.{Equal}
use Rattle.std.proofs.lemmas.Bool.{false≢true}
use Rattle.std.proofs.lemmas.List.Elements.{recursion_from_All}
use Rattle.std.proofs.lemmas.List.Sorted.{ranks_by, sorted_far}
use Rattle.bucket_aggs.specs.Counts.{is_again, once_after}
use Rattle.query_ast.proofs.Keys.{greater_is, same, same_back, same_is}
use Rattle.query_ast.proofs.Elements.{Each, by_test, each_as}
use Rattle.bucket_aggs.proofs.Rowed.{count_cons}

-- those that are left are some of them
pub once_each : {A : Type 0} (same : A → A → Bool) (P : A → Type 0) (before : Option A) (xs : List A) → Each P xs → Each P (once_after same before xs)
once_each same P before [] h = tt
once_each same P before (x ∷ xs) h =
    by_test (is_again same before x)
    (λ again. rw again (once_each same P before xs h.1))
    (λ new. rw new (h.0, once_each same P (Some x) xs h.1))

module _ {K : Type 0} (R : K → K → Ordering) (o : IsTotalOrder R) (exact : (x y : K) → R x y ≡ Equal → x ≡ y) where
  abbrev eq : K → K → Bool
  eq a b = is_eq (R a b)

  abbrev lt : K → K → Bool
  lt a b = is_lt (R a b)

  -- none comes before one that stands before it
  abbrev pub Up : List K → Type 0
  Up [] = Unit {0}
  Up (x ∷ xs) = Each (λ (y : K). lt y x ≡ false) xs × Up xs

  pub sorted_up : (xs : List K) → IsSortedBy lt xs → Up xs
  sorted_up [] h = tt
  sorted_up (x ∷ xs) h = (
    recursion_from_All (λ (later : K). lt later x ≡ false) xs (λ k d to. let e : k + 1 ≡ suc k = omega arith in let far : lt (get_or (x ∷ xs) (k + 1) d) x ≡ false = sorted_far lt (ranks_by o (λ (y : K). y)) (x ∷ xs) h 0 (k + 1) d (omega arith) (omega arith) in rw e at far),
    sorted_up xs (λ k d from to. let e : k + 1 ≡ suc k = omega arith in let f : suc k + 1 ≡ suc (k + 1) = omega arith in let here : lt (get_or (x ∷ xs) (suc k + 1) d) (get_or (x ∷ xs) (suc k) d) ≡ false = h (suc k) d (omega arith) (omega arith) in rw f at here),
  )

  -- what came before comes behind nothing that is left
  abbrev Behind : Option K → List K → Type 0
  Behind None xs = Unit {0}
  Behind (Some y) xs = Each (λ (x : K). lt x y ≡ false) xs

  abbrev is_met : Option K → K → Bool
  is_met before z = is_again eq before z

  -- one that is there and was not met
  abbrev one_new : Option K → K → List K → ℕ
  one_new before z xs = cond (list_any (eq z) xs && not (is_met before z)) 1 0

  -- what is met isn't among what stands behind another
  met_gone : (y x z : K) (xs : List K) → lt x y ≡ false → eq y x ≡ false → Each (λ (w : K). lt w x ≡ false) xs → eq y z ≡ true → list_any (eq z) xs ≡ false
  met_gone y x z xs up other behind is =
      none xs (each_as (λ (w : K). lt w x ≡ false) (λ (w : K). eq z w ≡ false) (λ w h. apart w h) xs behind)
    where
      -- y comes strictly before x
      front : lt y x ≡ true
      front = greater_is R o exact x y up (same_back R o exact x y ∙ other)

      own : y ≡ z
      own = same_is R o exact y z is

      apart : (w : K) → lt w x ≡ false → eq z w ≡ false
      apart w h =
          by_test (eq z w)
          (λ held.
          let alike : w ≡ y = sym (own ∙ same_is R o exact z w held) in
          absurd (false≢true (sym h ∙ ap (λ (v : K). lt v x) alike ∙ front)))
          (λ failed. failed)

      none : (ws : List K) → Each (λ (w : K). eq z w ≡ false) ws → list_any (eq z) ws ≡ false
      none [] g = refl
      none (w ∷ ws) g = rw g.0 (none ws g.1)

  behind_rest : (before : Option K) (x : K) (xs : List K) → Behind before (x ∷ xs) → Behind before xs
  behind_rest None x xs h = tt
  behind_rest (Some y) x xs h = h.1

  pub once_counts : (z : K) (before : Option K) (xs : List K) → Up xs → Behind before xs → count_by (eq z) (once_after eq before xs) ≡ one_new before z xs
  once_counts z before [] up behind = refl
  once_counts z before (x ∷ xs) up behind =
      by_test (is_again eq before x)
      (λ again. rw again (once_counts z before xs up.1 (behind_rest before x xs behind) ∙ met before again))
      (λ new. rw new (count_cons (eq z) x (once_after eq (Some x) xs) ∙ fresh (once_counts z (Some x) xs up.1 up.0) before new behind))
    where
      -- equal to the one before
      met : (before : Option K) → is_again eq before x ≡ true → one_new before z xs ≡ one_new before z (x ∷ xs)
      met None again = absurd (false≢true again)
      met (Some y) again =
          let same_one : y ≡ x = same_is R o exact y x again in
          by_test (eq z x)
          (λ held.
          let own : eq y z ≡ true = ap (λ (v : K). eq v z) same_one ∙ same_back R o exact x z ∙ held in
          rw (held, own) (no_more (list_any (eq z) xs)))
          (λ failed. rw failed refl)
        where
          no_more : (b : Bool) → cond {A = ℕ} (b && false) 1 0 ≡ 0
          no_more true = refl
          no_more false = refl

      fresh : count_by (eq z) (once_after eq (Some x) xs) ≡ one_new (Some x) z xs → (before : Option K) → is_again eq before x ≡ false → Behind before (x ∷ xs) → cond {A = ℕ} (eq z x) 1 0 + count_by (eq z) (once_after eq (Some x) xs) ≡ one_new before z (x ∷ xs)
      fresh rest before new back =
          by_test (eq z x)
          (λ held.
          let own : eq x z ≡ true = same_back R o exact x z ∙ held in
          let unmet : is_met before z ≡ false = not_met before new held in
          let none : one_new (Some x) z xs ≡ 0 = ap (λ (b : Bool). cond {A = ℕ} (list_any (eq z) xs && not b) 1 0) own ∙ no_more (list_any (eq z) xs) in
          rw (held, unmet) (omega (arith, rest, none)))
          (λ failed.
          let other : eq x z ≡ false = same_back R o exact x z ∙ failed in
          let known : one_new (Some x) z xs ≡ cond {A = ℕ} (list_any (eq z) xs && true) 1 0 = ap (λ (b : Bool). cond {A = ℕ} (list_any (eq z) xs && not b) 1 0) other in
          rw failed (omega (arith, rest, known, unmet_rest before new back)))
        where
          no_more : (b : Bool) → cond {A = ℕ} (b && false) 1 0 ≡ 0
          no_more true = refl
          no_more false = refl

          not_met : (before : Option K) → is_again eq before x ≡ false → eq z x ≡ true → is_met before z ≡ false
          not_met None new held = refl
          not_met (Some y) new held = ap (eq y) (same_is R o exact z x held) ∙ new

          unmet_rest : (before : Option K) → is_again eq before x ≡ false → Behind before (x ∷ xs) → cond {A = ℕ} (list_any (eq z) xs && true) 1 0 ≡ cond {A = ℕ} (list_any (eq z) xs && not (is_met before z)) 1 0
          unmet_rest None new back = refl
          unmet_rest (Some y) new back =
              by_test (eq y z)
              (λ held. let gone : list_any (eq z) xs ≡ false = met_gone y x z xs back.0 new up.0 held in rw gone refl)
              (λ failed. rw failed refl)
