-- The first rows of a list in order, found in one pass over it.
use Rattle.std.specs.Prelude.{◌≡◌, ℕ, zero, suc, ◌≤◌, Bool, true, false, List, [], ◌∷◌, ◌++◌, take, map, filter, length, if◌then◌else◌, refl}
use Rattle.std.specs.Cmp.{IsStrictWeakOrder}
use Rattle.std.specs.List.{AllByRecursion}
use Rattle.std.proofs.Common.{arith, ap, sym, ◌∙◌}
use Rattle.std.proofs.lemmas.Bool.{true≢false}
use Rattle.query_ast.specs.Compare.{placed, in_order}

-- the two answers of a test
pub split : {G : Type 0} (t : Bool) → (t ≡ true → G) → (t ≡ false → G) → G
split true held failed = held refl
split false held failed = failed refl

module _ {A : Type 0} where
  -- a new last element put into a list that is in order: behind all that it isn't before
  abbrev pub put : (A → A → Bool) → A → List A → List A
  put lt y [] = y ∷ []
  put lt y (z ∷ zs) = if lt y z then y ∷ z ∷ zs else z ∷ put lt y zs

  goes_on : {lt : A → A → Bool} → IsStrictWeakOrder lt → (x y z : A) → lt x y ≡ true → lt y z ≡ true → lt x z ≡ true
  goes_on {lt} o x y z a b =
      split (lt x z) (λ yes. yes) (λ no. absurd (true≢false (sym a ∙ o.chain x z y no (o.one_way y z b))))

  -- a first and a last element are put in, whichever is first put in
  placed-put : {lt : A → A → Bool} → IsStrictWeakOrder lt → (x y : A) (zs : List A) → placed lt x (put lt y zs) ≡ put lt y (placed lt x zs)
  placed-put {lt} o x y [] = split (lt y x) (λ yes. rw yes refl) (λ no. rw no refl)
  placed-put {lt} o x y (z ∷ zs) =
      split (lt y z)
      (λ front. split (lt z x)
      (λ behind. let less : lt y x ≡ true = goes_on o y z x front behind in simp (front, behind, less) refl)
      (λ before. split (lt y x) (λ yes. simp (front, before, yes) refl) (λ no. simp (front, before, no) refl)))
      (λ back. split (lt z x)
      (λ behind. simp (back, behind) (ap (λ ws. z ∷ ws) (placed-put o x y zs)))
      (λ before. let not_less : lt y x ≡ false = o.chain y z x back before in simp (back, before, not_less) refl))

  -- one more element behind the others
  pub in_order-more : {lt : A → A → Bool} → IsStrictWeakOrder lt → (xs : List A) (y : A) → in_order lt (xs ++ y ∷ []) ≡ put lt y (in_order lt xs)
  in_order-more o [] y = refl
  in_order-more {lt} o (x ∷ xs) y = ap (placed lt x) (in_order-more o xs y) ∙ placed-put o x y (in_order lt xs)

  pub length-put : (lt : A → A → Bool) (y : A) (zs : List A) → length (put lt y zs) ≡ suc (length zs)
  length-put lt y [] = refl
  length-put lt y (z ∷ zs) = split (lt y z) (λ yes. rw yes refl) (λ no. rw no (ap suc (length-put lt y zs)))

  length-placed : (lt : A → A → Bool) (x : A) (ys : List A) → length (placed lt x ys) ≡ suc (length ys)
  length-placed lt x [] = refl
  length-placed lt x (y ∷ ys) = split (lt y x) (λ yes. rw yes (ap suc (length-placed lt x ys))) (λ no. rw no refl)

  pub length-in_order : (lt : A → A → Bool) (xs : List A) → length (in_order lt xs) ≡ length xs
  length-in_order lt [] = refl
  length-in_order lt (x ∷ xs) = length-placed lt x (in_order lt xs) ∙ ap suc (length-in_order lt xs)

  take_none : (n : ℕ) → (let none : List A = [] in take n none ≡ none)
  take_none zero = refl
  take_none (suc n) = refl

  -- ---- the first of a list

  -- what stands behind the first ones doesn't matter
  take_again : (most : ℕ) (zs : List A) → take most zs ≡ take most (take (suc most) zs)
  take_again zero zs = refl
  take_again (suc most) [] = refl
  take_again (suc most) (z ∷ zs) = ap (λ ws. z ∷ ws) (take_again most zs)

  take_front : (most : ℕ) (z : A) (zs : List A) → take most (z ∷ zs) ≡ take most (z ∷ take most zs)
  take_front zero z zs = refl
  take_front (suc most) z zs = ap (λ ws. z ∷ ws) (take_again most zs)

  -- nor does it matter where one more is put in
  pub first-put : (lt : A → A → Bool) (most : ℕ) (y : A) (zs : List A) → take most (put lt y zs) ≡ take most (put lt y (take most zs))
  first-put lt zero y zs = refl
  first-put lt (suc most) y [] = refl
  first-put lt (suc most) y (z ∷ zs) =
      split (lt y z)
      (λ yes. rw yes (ap (λ ws. y ∷ ws) (take_front most z zs)))
      (λ no. rw no (ap (λ ws. z ∷ ws) (first-put lt most y zs)))

  -- one that comes before none of the first stands behind them
  pub passed_over : (lt : A → A → Bool) (most : ℕ) (y : A) (zs : List A) → most ≤ length zs → AllByRecursion (λ z. lt y z ≡ false) (take most zs) → take most (put lt y zs) ≡ take most zs
  passed_over lt zero y zs long none = refl
  passed_over lt (suc most) y [] long none = absurd (omega arith)
  passed_over lt (suc most) y (z ∷ zs) long none = rw none.0 (ap (λ ws. z ∷ ws) (passed_over lt most y zs (omega arith) none.1))

  -- ---- what holds of the first

  pub all_as : {P Q : A → Type 0} → ((x : A) → P x → Q x) → (xs : List A) → AllByRecursion P xs → AllByRecursion Q xs
  all_as f [] h = tt
  all_as f (x ∷ xs) h = (f x h.0, all_as f xs h.1)

  all_fewer : (P : A → Type 0) (most : ℕ) (xs : List A) → AllByRecursion P (take (suc most) xs) → AllByRecursion P (take most xs)
  all_fewer P zero xs h = tt
  all_fewer P (suc most) [] h = tt
  all_fewer P (suc most) (x ∷ xs) h = (h.0, all_fewer P most xs h.1)

  all_of_none : (P : A → Type 0) (n : ℕ) → (let none : List A = [] in AllByRecursion P (take n none))
  all_of_none P zero = tt
  all_of_none P (suc n) = tt

  pub all_put : (lt : A → A → Bool) (P : A → Type 0) (most : ℕ) (y : A) (zs : List A) → P y → AllByRecursion P (take most zs) → AllByRecursion P (take most (put lt y zs))
  all_put lt P zero y zs p h = tt
  all_put lt P (suc most) y [] p h = (p, all_of_none P most)
  all_put lt P (suc most) y (z ∷ zs) p h =
      split (lt y z)
      (λ yes. rw yes (p, all_fewer P most (z ∷ zs) h))
      (λ no. rw no (h.0, all_put lt P most y zs p h.1))

  -- ---- those that pass

  abbrev pub GoesUp : (A → A → Bool) → (A → Bool) → Type 0
  GoesUp lt q = (x y : A) → lt y x ≡ false → q x ≡ true → q y ≡ true

  placed_in : (lt : A → A → Bool) (q : A → Bool) → GoesUp lt q → (x : A) (ys : List A) → q x ≡ true → filter q (placed lt x ys) ≡ placed lt x (filter q ys)
  placed_in lt q up x [] passes = rw passes refl
  placed_in lt q up x (y ∷ ys) passes =
      split (lt y x)
      (λ behind. split (q y)
      (λ yes. simp (behind, yes) (ap (λ zs. y ∷ zs) (placed_in lt q up x ys passes)))
      (λ no. simp (behind, no) (placed_in lt q up x ys passes)))
      (λ before. let yes : q y ≡ true = up x y before passes in simp (before, yes, passes) refl)

  pub placed_out : (lt : A → A → Bool) (q : A → Bool) (x : A) (ys : List A) → q x ≡ false → filter q (placed lt x ys) ≡ filter q ys
  placed_out lt q x [] fails = rw fails refl
  placed_out lt q x (y ∷ ys) fails =
      split (lt y x)
      (λ behind. split (q y)
      (λ yes. simp (behind, yes) (ap (λ zs. y ∷ zs) (placed_out lt q x ys fails)))
      (λ no. simp (behind, no) (placed_out lt q x ys fails)))
      (λ before. simp (before, fails) refl)

  -- it doesn't matter whether those that pass are chosen before or after they are put in order
  pub filter-in_order : (lt : A → A → Bool) (q : A → Bool) → GoesUp lt q → (xs : List A) → filter q (in_order lt xs) ≡ in_order lt (filter q xs)
  filter-in_order lt q up [] = refl
  filter-in_order lt q up (x ∷ xs) =
      split (q x)
      (λ yes. rw yes (placed_in lt q up x (in_order lt xs) yes ∙ ap (placed lt x) (filter-in_order lt q up xs)))
      (λ no. rw no (placed_out lt q x (in_order lt xs) no ∙ filter-in_order lt q up xs))

module _ {A B : Type 0} (f : A → B) where
  placed-map : (lt : B → B → Bool) (x : A) (ys : List A) → placed lt (f x) (map f ys) ≡ map f (placed (λ a b. lt (f a) (f b)) x ys)
  placed-map lt x [] = refl
  placed-map lt x (y ∷ ys) =
      split (lt (f y) (f x)) (λ yes. rw yes (ap (λ zs. f y ∷ zs) (placed-map lt x ys))) (λ no. rw no refl)

  pub in_order-map : (lt : B → B → Bool) (xs : List A) → in_order lt (map f xs) ≡ map f (in_order (λ a b. lt (f a) (f b)) xs)
  in_order-map lt [] = refl
  in_order-map lt (x ∷ xs) = ap (placed lt (f x)) (in_order-map lt xs) ∙ placed-map lt x (in_order (λ a b. lt (f a) (f b)) xs)

  pub filter-map : (q : B → Bool) (xs : List A) → filter q (map f xs) ≡ map f (filter (λ a. q (f a)) xs)
  filter-map q [] = refl
  filter-map q (x ∷ xs) = split (q (f x)) (λ yes. rw yes (ap (λ zs. f x ∷ zs) (filter-map q xs))) (λ no. rw no (filter-map q xs))
