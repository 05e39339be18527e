-- The first element of a list that passes a test: so many fail before it.
use Rattle.std.proofs.Common.{◌≡◌, ℕ, zero, suc, ◌+◌, ◌<◌, ◌≤◌, Bool, true, false, List, [], ◌∷◌, length, drop, Some, None, refl, ap, ◌∙◌, inl, inr, arith}
use Rattle.std.specs.Prelude.{⊤}
use Rattle.std.specs.List.{position_from}
use Rattle.std.proofs.lemmas.Bool.{cases_Bool}

-- the first so many fail, or the list ends before
abbrev pub NoneIn : {X : Type 0} → (X → Bool) → ℕ → List X → Type 0
NoneIn test zero xs = ⊤
NoneIn test (suc k) [] = ⊤
NoneIn test (suc k) (x ∷ xs) = (test x ≡ false) × NoneIn test k xs

-- so many fail, and then one passes
abbrev pub FirstAt : {X : Type 0} → (X → Bool) → ℕ → List X → Type 0
FirstAt test zero [] = ⊥
FirstAt test zero (x ∷ xs) = test x ≡ true
FirstAt test (suc k) [] = ⊥
FirstAt test (suc k) (x ∷ xs) = (test x ≡ false) × FirstAt test k xs

-- where a search from place `start` finds
pub record FoundAt {X : Type 0} (test : X → Bool) (start : ℕ) (xs : List X) (at : ℕ) : Type 0 where
  pub ahead : ℕ
  pub place : at ≡ start + ahead
  pub first : FirstAt test ahead xs

pub first_at : {X : Type 0} (test : X → Bool) (start : ℕ) (xs : List X) (at : ℕ) → position_from test start xs ≡ Some at → FoundAt test start xs at
first_at test start [] at e = absurd (cc)
first_at test start (x ∷ xs) at e = elim (cases_Bool (test x)) [
  | inl here ↦
      let found : Some start ≡ Some at = rw here at e in
      let same : start ≡ at = cc in
      record { ahead = 0; place = omega (arith, same); first = here }
  | inr fails ↦
      let rest = first_at test (start + 1) xs at (rw fails at e) in
      record { ahead = suc rest.ahead; place = omega (arith, rest.place); first = (fails, rest.first) }
]

pub none_at : {X : Type 0} (test : X → Bool) (start : ℕ) (xs : List X) (k : ℕ) → position_from test start xs ≡ None → NoneIn test k xs
none_at test start xs zero e = tt
none_at test start [] (suc k) e = tt
none_at test start (x ∷ xs) (suc k) e = elim (cases_Bool (test x)) [
  | inl here ↦ let found : Some start ≡ None = rw here at e in absurd (cc)
  | inr fails ↦ (fails, none_at test (start + 1) xs k (rw fails at e))
]

pub first_again : {X : Type 0} (test : X → Bool) (start k : ℕ) (xs : List X) → FirstAt test k xs → position_from test start xs ≡ Some (start + k)
first_again test start zero [] h = absurd h
first_again test start zero (x ∷ xs) h = rw h (ap Some (omega arith))
first_again test start (suc k) [] h = absurd h
first_again test start (suc k) (x ∷ xs) h = rw h.0 (first_again test (start + 1) k xs h.1 ∙ ap Some (omega arith))

-- what fails may be passed over
pub passed_over : {X : Type 0} (test : X → Bool) (start k : ℕ) (xs : List X) → NoneIn test k xs → position_from test (start + k) (drop k xs) ≡ position_from test start xs
passed_over test start zero xs h = let same : start + 0 ≡ start = omega arith in rw same refl
passed_over test start (suc k) [] h = refl
passed_over test start (suc k) (x ∷ xs) h =
    let next : start + suc k ≡ start + 1 + k = omega arith in
    ap (λ n. position_from test n (drop k xs)) next ∙ passed_over test (start + 1) k xs h.1 ∙ rw h.0 refl

pub none_before : {X : Type 0} (test : X → Bool) (j k : ℕ) (xs : List X) → FirstAt test k xs → j ≤ k → NoneIn test j xs
none_before test zero k xs h le = tt
none_before test (suc j) zero xs h le = absurd (omega arith)
none_before test (suc j) (suc k) [] h le = absurd h
none_before test (suc j) (suc k) (x ∷ xs) h le = (h.0, none_before test j k xs h.1 (omega arith))

pub first_within : {X : Type 0} (test : X → Bool) (k : ℕ) (xs : List X) → FirstAt test k xs → k < length xs
first_within test zero [] h = absurd h
first_within test zero (x ∷ xs) h = omega arith
first_within test (suc k) [] h = absurd h
first_within test (suc k) (x ∷ xs) h = omega (arith, first_within test k xs h.1)
