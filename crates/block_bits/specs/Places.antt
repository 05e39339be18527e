-- Places in a list, counted from 0: the next and the previous element that passes a test.
use Rattle.std.specs.Prelude.{◌≡◌, ℕ, ◌+◌, Bool, true, false, cond, List, [], ◌∷◌, ◌++◌, length, take, drop, Option, Some, None}
use Rattle.std.specs.List.{All, position_from}
use Rattle.std.specs.Option.{option_or}

-- the least place at or after `from` whose element passes
abbrev pub next_place : {X : Type 0} → (X → Bool) → ℕ → List X → Option ℕ
next_place test from xs = position_from test from (drop from xs)

-- the greatest place whose element passes, where the list begins at place `start`
abbrev pub last_place : {X : Type 0} → (X → Bool) → ℕ → List X → Option ℕ
last_place test start [] = None
last_place test start (x ∷ xs) = option_or (last_place test (start + 1) xs) (cond (test x) (Some start) None)

-- the greatest place before `below` whose element passes
abbrev pub previous_place : {X : Type 0} → (X → Bool) → ℕ → List X → Option ℕ
previous_place test below xs = last_place test 0 (take below xs)

-- none passes
abbrev pub AllFail : {X : Type 0} → (X → Bool) → List X → Type 0
AllFail test xs = All (λ x. test x ≡ false) xs

-- the first that passes, in a list that begins at place `start`
pub record IsFirst {X : Type 0} (test : X → Bool) (start : ℕ) (xs : List X) (at : ℕ) : Type 0 where
  pub before : List X
  pub own : X
  pub after : List X
  pub split : xs ≡ before ++ (own ∷ after)
  pub fail : AllFail test before
  pub passes : test own ≡ true
  pub place : at ≡ start + length before

-- the last that passes
pub record IsLast {X : Type 0} (test : X → Bool) (start : ℕ) (xs : List X) (at : ℕ) : Type 0 where
  pub before : List X
  pub own : X
  pub after : List X
  pub split : xs ≡ before ++ (own ∷ after)
  pub passes : test own ≡ true
  pub fail : AllFail test after
  pub place : at ≡ start + length before
