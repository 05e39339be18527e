-- Lists, element by element.
use Rattle.std.proofs.Common.{◌≡◌, Bool, true, false, List, [], ◌∷◌, refl}
use Rattle.std.specs.List.{AllByRecursion}

-- the two answers of a test
pub by_test : {G : Type 0} (t : Bool) → (t ≡ true → G) → (t ≡ false → G) → G
by_test true held failed = held refl
by_test false held failed = failed refl

abbrev pub Each : {A : Type 0} → (A → Type 0) → List A → Type 0
Each P xs = AllByRecursion P xs

module _ {A : Type 0} where
  pub each_as : (P Q : A → Type 0) → ((x : A) → P x → Q x) → (xs : List A) → Each P xs → Each Q xs
  each_as P Q f [] h = tt
  each_as P Q f (x ∷ xs) h = (f x h.0, each_as P Q f xs h.1)

module _ {A : Type 0} (same : A → A → Bool) where
  -- no later one is the same as an earlier
  abbrev pub Apart : List A → Type 0
  Apart [] = Unit {0}
  Apart (x ∷ xs) = Each (λ (y : A). same y x ≡ false) xs × Apart xs
