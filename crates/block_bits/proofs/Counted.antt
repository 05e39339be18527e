-- A count of one is one element alone.
use Rattle.std.proofs.Common.{◌≡◌, ℕ, zero, suc, ◌+◌, ◌<◌, Bool, true, false, cond, List, [], ◌∷◌, length, get_or, refl, sym, ap, ◌∙◌, inl, inr, arith}
use Rattle.std.specs.List.{count_by, position_or_len}
use Rattle.std.proofs.lemmas.List.Sums.{sum_by-append}
use Rattle.std.proofs.lemmas.Bool.{cases_Bool, true≢false, false_from_ne_true}

count_by-cons : {X : Type 0} (test : X → Bool) (x : X) (xs : List X) → count_by test (x ∷ xs) ≡ cond (test x) 1 0 + count_by test xs
count_by-cons test x xs = sum_by-append (λ y. cond (test y) 1 0) (x ∷ []) xs ∙ omega arith

pub none_from_count : {X : Type 0} (test : X → Bool) (xs : List X) (d : X) → count_by test xs ≡ 0 → (k : ℕ) → k < length xs → test (get_or xs k d) ≡ false
none_from_count test [] d e k h = absurd (omega arith)
none_from_count test (x ∷ xs) d e zero h = elim (cases_Bool (test x)) [
  | inl here ↦ absurd (omega (arith, count_by-cons test x xs, ap {B = ℕ} (λ (b : Bool). cond b 1 0) here))
  | inr not_here ↦ not_here
]
none_from_count test (x ∷ xs) d e (suc k) h = none_from_count test xs d (omega (arith, count_by-cons test x xs)) k (omega arith)

count_from_none : {X : Type 0} (test : X → Bool) (xs : List X) (d : X) → ((k : ℕ) → k < length xs → test (get_or xs k d) ≡ false) → count_by test xs ≡ 0
count_from_none test [] d none = refl
count_from_none test (x ∷ xs) d none =
    count_by-cons test x xs
    ∙ omega (arith, ap {B = ℕ} (λ (b : Bool). cond b 1 0) (none 0 (omega arith)), count_from_none test xs d (λ k h. none (suc k) (omega arith)))

-- the element at index `i` passes, and no other
pub record IsOnly {X : Type 0} (test : X → Bool) (xs : List X) (d : X) (i : ℕ) : Type 0 where
  pub within : i < length xs
  pub here : test (get_or xs i d) ≡ true
  pub only : (k : ℕ) → k < length xs → test (get_or xs k d) ≡ true → k ≡ i

first_only : {X : Type 0} (test : X → Bool) (x : X) (xs : List X) (d : X) → ((k : ℕ) → k < length xs → test (get_or xs k d) ≡ false)
    → (k : ℕ) → k < length (x ∷ xs) → test (get_or (x ∷ xs) k d) ≡ true → k ≡ 0
first_only test x xs d rest zero h passes = refl
first_only test x xs d rest (suc k) h passes = absurd (true≢false (sym passes ∙ rest k (omega arith)))

later_only : {X : Type 0} (test : X → Bool) (x : X) (xs : List X) (d : X) (i : ℕ) → test x ≡ false → IsOnly test xs d i
    → (k : ℕ) → k < length (x ∷ xs) → test (get_or (x ∷ xs) k d) ≡ true → k ≡ suc i
later_only test x xs d i first rest zero h passes = absurd (true≢false (sym passes ∙ first))
later_only test x xs d i first rest (suc k) h passes = ap suc (rest.only k (omega arith) passes)

one_later : {X : Type 0} (test : X → Bool) (x : X) (xs : List X) (d : X) (i j : ℕ) → test x ≡ false → IsOnly test xs d i → j ≡ suc i → IsOnly test (x ∷ xs) d j
one_later test x xs d i j first rest e =
    rw e record { within = omega (arith, rest.within); here = rest.here; only = later_only test x xs d i first rest }

pub only_from_count : {X : Type 0} (test : X → Bool) (xs : List X) (d : X) → count_by test xs ≡ 1 → IsOnly test xs d (position_or_len test xs)
only_from_count test [] d e = absurd (omega arith)
only_from_count test (x ∷ xs) d e = elim (cases_Bool (test x)) [
  | inl here ↦
      let rest = none_from_count test xs d (omega (arith, count_by-cons test x xs, ap {B = ℕ} (λ (b : Bool). cond b 1 0) here)) in
      rw here record { within = omega arith; here = here; only = first_only test x xs d rest }
  | inr not_here ↦
      let rest = only_from_count test xs d (omega (arith, count_by-cons test x xs, ap {B = ℕ} (λ (b : Bool). cond b 1 0) not_here)) in
      rw not_here (one_later test x xs d (position_or_len test xs) (1 + position_or_len test xs) not_here rest (omega arith))
]

pub count_from_only : {X : Type 0} (test : X → Bool) (xs : List X) (d : X) (i : ℕ) → IsOnly test xs d i → count_by test xs ≡ 1
count_from_only test [] d i only = absurd (omega (arith, only.within))
count_from_only test (x ∷ xs) d zero only =
    count_by-cons test x xs
    ∙ omega (
      arith,
      ap {B = ℕ} (λ (b : Bool). cond b 1 0) only.here,
      count_from_none test xs d (λ k h. false_from_ne_true (test (get_or xs k d)) (λ passes. let e : suc k ≡ 0 = only.only (suc k) (omega arith) passes in omega arith)),
    )
count_from_only test (x ∷ xs) d (suc i) only =
    let first : test x ≡ false = false_from_ne_true (test x) (λ passes. let e : 0 ≡ suc i = only.only 0 (omega arith) passes in omega arith) in
    let rest : IsOnly test xs d i = record {
      within = omega (arith, only.within);
      here = only.here;
      only = λ k h passes. let e : suc k ≡ suc i = only.only (suc k) (omega arith) passes in omega arith;
    } in
    count_by-cons test x xs ∙ omega (arith, ap {B = ℕ} (λ (b : Bool). cond b 1 0) first, count_from_only test xs d i rest)
