-- Tests of the elements of lists.
use Rattle.std.proofs.Common.{◌≡◌, ℕ, zero, suc, ◌+◌, ◌<◌, ◌≤◌, Bool, true, false, ◌&&◌, ◌||◌, List, [], ◌∷◌, map, filter, All, refl, sym, ap, ◌∙◌, inl, inr, arith, nat_eq}
use Rattle.std.specs.List.{list_any, list_all, flat_map, range_with_len}
use Rattle.std.proofs.lemmas.Bool.{cases_Bool, eqb-true, ne_eqb}
use Rattle.std.proofs.lemmas.Bool.Decides.{nat_tests}
use Rattle.std.proofs.lemmas.List.Elements.{All-head, All-tail}
use Rattle.std.proofs.lemmas.List.Folds.{list_any-append}

-- ---- truth values

pub same_test : (a b : Bool) → (a ≡ true → b ≡ true) → (b ≡ true → a ≡ true) → a ≡ b
same_test true true to from = refl
same_test true false to from = sym (to refl)
same_test false true to from = from refl
same_test false false to from = refl

pub and_false : (a : Bool) → (a && false) ≡ false
and_false true = refl
and_false false = refl

pub and_true : (a : Bool) → (a && true) ≡ a
and_true true = refl
and_true false = refl

pub or_false : (a : Bool) → (a || false) ≡ a
or_false true = refl
or_false false = refl

pub or_assoc : (a b c : Bool) → ((a || b) || c) ≡ (a || (b || c))
or_assoc true b c = refl
or_assoc false b c = refl

pub and_assoc : (a b c : Bool) → ((a && b) && c) ≡ (a && (b && c))
and_assoc true b c = refl
and_assoc false b c = refl

pub and_or : (a b c : Bool) → (a && (b || c)) ≡ ((a && b) || (a && c))
and_or true b c = refl
and_or false b c = refl

any_or_step : (a b c d : Bool) → ((a || b) || (c || d)) ≡ ((a || c) || (b || d))
any_or_step true b c d = refl
any_or_step false true true d = refl
any_or_step false true false d = refl
any_or_step false false c d = refl

-- ---- lists

module _ {X : Type 0} where
  pub any_same : (p q : X → Bool) → ((x : X) → p x ≡ q x) → (xs : List X) → list_any p xs ≡ list_any q xs
  any_same p q same [] = refl
  any_same p q same (x ∷ xs) = rw (same x, any_same p q same xs) refl

  pub all_same : (p q : X → Bool) → ((x : X) → p x ≡ q x) → (xs : List X) → list_all p xs ≡ list_all q xs
  all_same p q same [] = refl
  all_same p q same (x ∷ xs) = rw (same x, all_same p q same xs) refl

  -- of elements with a property, on which two tests agree
  pub any_agree : (P : X → Type 0) (p q : X → Bool) → ((x : X) → P x → p x ≡ q x) → (xs : List X) → All P xs → list_any p xs ≡ list_any q xs
  any_agree P p q same [] all = refl
  any_agree P p q same (x ∷ xs) all = rw (same x (All-head P x xs all), any_agree P p q same xs (All-tail P x xs all)) refl

  pub all_agree : (P : X → Type 0) (p q : X → Bool) → ((x : X) → P x → p x ≡ q x) → (xs : List X) → All P xs → list_all p xs ≡ list_all q xs
  all_agree P p q same [] all = refl
  all_agree P p q same (x ∷ xs) all = rw (same x (All-head P x xs all), all_agree P p q same xs (All-tail P x xs all)) refl

  pub any_never : (xs : List X) → list_any (λ (x : X). false) xs ≡ false
  any_never [] = refl
  any_never (x ∷ xs) = any_never xs

  pub any_and : (a : Bool) (p : X → Bool) (xs : List X) → list_any (λ (x : X). a && p x) xs ≡ (a && list_any p xs)
  any_and true p xs = refl
  any_and false p xs = any_never xs

  pub any_or : (p q : X → Bool) (xs : List X) → list_any (λ (x : X). p x || q x) xs ≡ (list_any p xs || list_any q xs)
  any_or p q [] = refl
  any_or p q (x ∷ xs) = ap (λ (b : Bool). (p x || q x) || b) (any_or p q xs) ∙ any_or_step (p x) (q x) (list_any p xs) (list_any q xs)

  pub any-filter : (p q : X → Bool) (xs : List X) → list_any p (filter q xs) ≡ list_any (λ (x : X). q x && p x) xs
  any-filter p q [] = refl
  any-filter p q (x ∷ xs) = elim (cases_Bool (q x)) [
    | inl passes ↦ rw passes (ap (λ (b : Bool). p x || b) (any-filter p q xs))
    | inr never ↦ rw never (any-filter p q xs)
  ]

  -- elements that fail the test may be left out
  pub any_kept : (p q : X → Bool) → ((x : X) → q x ≡ false → p x ≡ false) → (xs : List X) → list_any p (filter q xs) ≡ list_any p xs
  any_kept p q fails [] = refl
  any_kept p q fails (x ∷ xs) = elim (cases_Bool (q x)) [
    | inl passes ↦ rw passes (ap (λ (b : Bool). p x || b) (any_kept p q fails xs))
    | inr never ↦ rw (never, fails x never) (any_kept p q fails xs)
  ]

module _ {X Y : Type 0} where
  pub any-map : (p : Y → Bool) (f : X → Y) (xs : List X) → list_any p (map f xs) ≡ list_any (λ (x : X). p (f x)) xs
  any-map p f [] = refl
  any-map p f (x ∷ xs) = ap (λ (b : Bool). p (f x) || b) (any-map p f xs)

  pub any-flat_map : (p : Y → Bool) (f : X → List Y) (xs : List X) → list_any p (flat_map f xs) ≡ list_any (λ (x : X). list_any p (f x)) xs
  any-flat_map p f [] = refl
  any-flat_map p f (x ∷ xs) = list_any-append p (f x) (flat_map f xs) ∙ ap (λ (b : Bool). list_any p (f x) || b) (any-flat_map p f xs)

  -- for some x of these there is some y of those
  pub any_swap : (p : X → Y → Bool) (xs : List X) (ys : List Y) → list_any (λ (x : X). list_any (p x) ys) xs ≡ list_any (λ (y : Y). list_any (λ (x : X). p x y) xs) ys
  any_swap p [] ys = sym (any_never ys)
  any_swap p (x ∷ xs) ys =
      ap (λ (b : Bool). list_any (p x) ys || b) (any_swap p xs ys)
      ∙ sym (any_or (p x) (λ (y : Y). list_any (λ (x : X). p x y) xs) ys)

-- ---- one number of a range

before_range : (f start n : ℕ) (q : ℕ → Bool) → f < start → list_any (λ (g : ℕ). nat_eq g f && q g) (range_with_len start n) ≡ false
before_range f start zero q below = refl
before_range f start (suc n) q below =
    rw (ne_eqb start f (λ same. omega arith)) (before_range f (start + 1) n q (omega arith))

pub one_in_range : (f start n : ℕ) (q : ℕ → Bool) → start ≤ f → f < start + n → list_any (λ (g : ℕ). nat_eq g f && q g) (range_with_len start n) ≡ q f
one_in_range f start zero q from to = absurd (omega arith)
one_in_range f start (suc n) q from to = elim (cases_Bool (nat_eq start f)) [
  | inl same ↦
      let is : start ≡ f = eqb-true start f same in
      rw (same, before_range f (start + 1) n q (omega arith)) (or_false (q start) ∙ ap q is)
  | inr other ↦
      rw other (one_in_range f (start + 1) n q (grind (arith, nat_tests)) (omega arith))
]
