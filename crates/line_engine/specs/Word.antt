-- The words of the command line: four shapes, and all others.
use Rattle.std.specs.Prelude.{◌≡◌, ℕ, ◌≤◌, ◌-◌, ◌^◌, Bool, true, false, ◌&&◌, List, [], ◌∷◌, codes, decimal}
use Rattle.std.specs.Str.{bytes_eq}

abbrev pub is_path : List ℕ → Bool
is_path [] = false
is_path (byte ∷ bytes) = true

-- `serve STORE`, where STORE is a word that isn't empty
abbrev pub is_serve : List (List ℕ) → Bool
is_serve (command ∷ store ∷ []) = bytes_eq command (codes "serve") && is_path store
is_serve _ = false

-- `check STORE`
abbrev pub is_check : List (List ℕ) → Bool
is_check (command ∷ store ∷ []) = bytes_eq command (codes "check") && is_path store
is_check _ = false

-- the greatest COUNT
abbrev pub most_made : ℕ
most_made = 1000000

-- a command with NUMBER and COUNT: two numbers as they are printed, so without a sign and without a leading zero
pub record NamesMade (command : List ℕ) (number count : ℕ) (words : List (List ℕ)) : Type 0 where
  pub are : words ≡ command ∷ decimal number ∷ decimal count ∷ []
  pub number_fits : number ≤ 2 ^ 64 - 1
  pub count_fits : count ≤ most_made

-- `make NUMBER COUNT`
abbrev pub IsMake : ℕ → ℕ → List (List ℕ) → Type 0
IsMake number count words = NamesMade (codes "make") number count words

-- `run-made NUMBER COUNT`
abbrev pub IsRunMade : ℕ → ℕ → List (List ℕ) → Type 0
IsRunMade number count words = NamesMade (codes "run-made") number count words

-- the words have none of the four shapes
pub record AreBad (words : List (List ℕ)) : Type 0 where
  pub serve : is_serve words ≡ false
  pub check : is_check words ≡ false
  pub make : (number count : ℕ) → IsMake number count words → ⊥
  pub run_made : (number count : ℕ) → IsRunMade number count words → ⊥
