-- Facts of each element of lists that are put together.
use Rattle.std.proofs.Common.{◌≡◌, ℕ, zero, suc, ◌+◌, ◌≤◌, ◌<◌, ◌==◌, List as Seq, [], ◌∷◌, ◌++◌, map, filter, flat_map, Bool, true, false, cond, refl, arith}
use Rattle.std.specs.List.{AllByRecursion, range_with_len}

-- the two answers of a test
pub by_test : {G : Type 0} (t : Bool) → (t ≡ true → G) → (t ≡ false → G) → G
by_test true held failed = held refl
by_test false held failed = failed refl

pub by_choice : {A : Type 0} (P : A → Type 0) (t : Bool) (x y : A) → (t ≡ true → P x) → (t ≡ false → P y) → P (cond t x y)
by_choice P true x y held failed = held refl
by_choice P false x y held failed = failed refl

pub same_number : (a b : ℕ) → a ≡ b → (a == b) ≡ true
same_number a b same = grind arith

abbrev pub Each : {A : Type 0} → (A → Type 0) → Seq A → Type 0
Each P xs = AllByRecursion P xs

module _ {A : Type 0} where
  pub each_map : (P Q : A → Type 0) → ((x : A) → P x → Q x) → (xs : Seq A) → Each P xs → Each Q xs
  each_map P Q f [] h = tt
  each_map P Q f (x ∷ xs) h = (f x h.0, each_map P Q f xs h.1)

  pub each_append : (P : A → Type 0) (xs ys : Seq A) → Each P xs → Each P ys → Each P (xs ++ ys)
  each_append P [] ys h g = g
  each_append P (x ∷ xs) ys h g = (h.0, each_append P xs ys h.1 g)

  pub each_filter : (P : A → Type 0) (test : A → Bool) (xs : Seq A) → Each P xs → Each (λ (x : A). P x × (test x ≡ true)) (filter test xs)
  each_filter P test [] h = tt
  each_filter P test (x ∷ xs) h =
      by_choice (Each (λ (y : A). P y × (test y ≡ true))) (test x) (x ∷ filter test xs) (filter test xs)
      (λ held. ((h.0, held), each_filter P test xs h.1))
      (λ failed. each_filter P test xs h.1)

pub each_flat : {A B : Type 0} (P : B → Type 0) (Q : A → Type 0) (f : A → Seq B) → ((x : A) → Q x → Each P (f x)) → (xs : Seq A) → Each Q xs → Each P (flat_map f xs)
each_flat P Q f all [] h = tt
each_flat P Q f all (x ∷ xs) h = each_append P (f x) (flat_map f xs) (all x h.0) (each_flat P Q f all xs h.1)

pub each_in_range : (P : ℕ → Type 0) (from count : ℕ) → ((k : ℕ) → from ≤ k → k < from + count → P k) → Each P (range_with_len from count)
each_in_range P from zero all = tt
each_in_range P from (suc count) all =
    (all from (omega arith) (omega arith), each_in_range P (from + 1) count (λ k low high. all k (omega arith) (omega arith)))
