-- Lists that are filtered and put together.
use Rattle.std.proofs.Common.{◌≡◌, ℕ, zero, suc, ◌<◌, ◌≤◌, Bool, true, false, ◌&&◌, ◌||◌, cond, List, [], ◌∷◌, ◌++◌, length, map, filter, get_or, refl, sym, ap, ◌∙◌, arith}
use Rattle.std.specs.List.{flat_map, list_any}
use Rattle.std.proofs.lemmas.List.Elements.{filter-append}
use Rattle.query_ast.proofs.Elements.{Each, by_test}

pub and_false : (b : Bool) → (b && false) ≡ false
and_false true = refl
and_false false = refl

pub and_back : (a b : Bool) → (a && b) ≡ (b && a)
and_back true true = refl
and_back true false = refl
and_back false true = refl
and_back false false = refl

module _ {A : Type 0} where
  pub each_of_all : (P : A → Type 0) → ((x : A) → P x) → (xs : List A) → Each P xs
  each_of_all P all [] = tt
  each_of_all P all (x ∷ xs) = (all x, each_of_all P all xs)

  pub each_kept : (P : A → Type 0) (test : A → Bool) (xs : List A) → Each P xs → Each P (filter test xs)
  each_kept P test [] h = tt
  each_kept P test (x ∷ xs) h =
      by_test (test x) (λ held. rw held (h.0, each_kept P test xs h.1)) (λ failed. rw failed (each_kept P test xs h.1))

  pub each_at : (P : A → Type 0) (xs : List A) (k : ℕ) (d : A) → Each P xs → k < length xs → P (get_or xs k d)
  each_at P [] k d h low = absurd (omega (arith, low))
  each_at P (x ∷ xs) zero d h low = h.0
  each_at P (x ∷ xs) (suc k) d h low = each_at P xs k d h.1 (omega (arith, low))

  -- what passes a test is what it says
  pub each_passes : (test : A → Bool) (xs : List A) → Each (λ (x : A). test x ≡ true) (filter test xs)
  each_passes test [] = tt
  each_passes test (x ∷ xs) =
      by_test (test x) (λ held. rw held (held, each_passes test xs)) (λ failed. rw failed (each_passes test xs))

  pub filter_twice : (p q : A → Bool) (xs : List A) → filter p (filter q xs) ≡ filter (λ x. q x && p x) xs
  filter_twice p q [] = refl
  filter_twice p q (x ∷ xs) =
      by_test (q x)
      (λ held. by_test (p x) (λ also. rw (held, also) (ap (λ zs. x ∷ zs) (filter_twice p q xs))) (λ not. rw (held, not) (filter_twice p q xs)))
      (λ failed. rw failed (filter_twice p q xs))

  pub filter_same : (p q : A → Bool) → ((x : A) → p x ≡ q x) → (xs : List A) → filter p xs ≡ filter q xs
  filter_same p q same [] = refl
  filter_same p q same (x ∷ xs) =
      ap (λ (b : Bool). cond b (x ∷ filter p xs) (filter p xs)) (same x)
      ∙ ap (λ (l : List A). cond (q x) (x ∷ l) l) (filter_same p q same xs)

  pub filter_alike : (p q : A → Bool) (xs : List A) → Each (λ (x : A). p x ≡ q x) xs → filter p xs ≡ filter q xs
  filter_alike p q [] h = refl
  filter_alike p q (x ∷ xs) h =
      ap (λ (b : Bool). cond b (x ∷ filter p xs) (filter p xs)) h.0
      ∙ ap (λ (l : List A). cond (q x) (x ∷ l) l) (filter_alike p q xs h.1)

  -- all pass, or none
  pub filter_whole : (p : A → Bool) (b : Bool) (xs : List A) → Each (λ (x : A). p x ≡ b) xs → filter p xs ≡ cond b xs []
  filter_whole p true [] h = refl
  filter_whole p false [] h = refl
  filter_whole p true (x ∷ xs) h = rw h.0 (ap (λ zs. x ∷ zs) (filter_whole p true xs h.1))
  filter_whole p false (x ∷ xs) h = rw h.0 (filter_whole p false xs h.1)

  pub filter_all : (p : A → Bool) → ((x : A) → p x ≡ true) → (xs : List A) → filter p xs ≡ xs
  filter_all p all xs = filter_whole p true xs (each_of_all (λ (x : A). p x ≡ true) all xs)

  filter_fewer : (p : A → Bool) (xs : List A) → length (filter p xs) ≤ length xs
  filter_fewer p [] = omega arith
  filter_fewer p (x ∷ xs) =
      by_test (p x) (λ held. rw held (omega (arith, filter_fewer p xs))) (λ failed. rw failed (omega (arith, filter_fewer p xs)))

  -- where as many pass as there are, all do
  pub filter_counted : (p : A → Bool) (xs : List A) → length (filter p xs) ≡ length xs → filter p xs ≡ xs
  filter_counted p [] same = refl
  filter_counted p (x ∷ xs) same =
      by_test (p x)
      (λ held.
      let own : suc (length (filter p xs)) ≡ suc (length xs) = rw held at same in
      rw held (ap (λ (l : List A). x ∷ l) (filter_counted p xs (omega (arith, own)))))
      (λ failed. absurd (let own : length (filter p xs) ≡ suc (length xs) = rw failed at same in omega (arith, own, filter_fewer p xs)))

  pub any_same : (p q : A → Bool) → ((x : A) → p x ≡ q x) → (xs : List A) → list_any p xs ≡ list_any q xs
  any_same p q same [] = refl
  any_same p q same (x ∷ xs) = rw (same x, any_same p q same xs) refl

  pub any_kept : (p q : A → Bool) (xs : List A) → list_any p (filter q xs) ≡ list_any (λ x. q x && p x) xs
  any_kept p q [] = refl
  any_kept p q (x ∷ xs) =
      by_test (q x) (λ held. rw held (ap (λ (b : Bool). p x || b) (any_kept p q xs))) (λ failed. rw failed (any_kept p q xs))

module _ {A B : Type 0} where
  pub filter_flat : (p : B → Bool) (f : A → List B) (xs : List A) → filter p (flat_map f xs) ≡ flat_map (λ x. filter p (f x)) xs
  filter_flat p f [] = refl
  filter_flat p f (x ∷ xs) = filter-append p (f x) (flat_map f xs) ∙ ap (λ zs. filter p (f x) ++ zs) (filter_flat p f xs)

  pub flat_same : (f g : A → List B) (xs : List A) → Each (λ (x : A). f x ≡ g x) xs → flat_map f xs ≡ flat_map g xs
  flat_same f g [] h = refl
  flat_same f g (x ∷ xs) h = ap (λ zs. zs ++ flat_map f xs) h.0 ∙ ap (λ zs. g x ++ zs) (flat_same f g xs h.1)

  pub filter_map_list : (p : B → Bool) (f : A → B) (xs : List A) → filter p (map f xs) ≡ map f (filter (λ x. p (f x)) xs)
  filter_map_list p f [] = refl
  filter_map_list p f (x ∷ xs) =
      by_test (p (f x)) (λ held. rw held (ap (λ zs. f x ∷ zs) (filter_map_list p f xs))) (λ failed. rw failed (filter_map_list p f xs))

  pub any_map : (p : B → Bool) (f : A → B) (xs : List A) → list_any p (map f xs) ≡ list_any (λ x. p (f x)) xs
  any_map p f [] = refl
  any_map p f (x ∷ xs) = ap (λ (b : Bool). p (f x) || b) (any_map p f xs)

pub flat_flat : {A B C : Type 0} (g : B → List C) (f : A → List B) (xs : List A) → flat_map g (flat_map f xs) ≡ flat_map (λ x. flat_map g (f x)) xs
flat_flat {A} {B} {C} g f [] = refl
flat_flat {A} {B} {C} g f (x ∷ xs) = over (f x) ∙ ap (λ zs. flat_map g (f x) ++ zs) (flat_flat g f xs)
  where
    assoc : (us vs ws : List C) → (us ++ vs) ++ ws ≡ us ++ (vs ++ ws)
    assoc [] vs ws = refl
    assoc (u ∷ us) vs ws = ap (λ zs. u ∷ zs) (assoc us vs ws)

    over : (ys : List B) → flat_map g (ys ++ flat_map f xs) ≡ flat_map g ys ++ flat_map g (flat_map f xs)
    over [] = refl
    over (y ∷ ys) = ap (λ zs. g y ++ zs) (over ys) ∙ sym (assoc (g y) (flat_map g ys) (flat_map g (flat_map f xs)))

pub map_flat : {A B C : Type 0} (g : B → C) (f : A → List B) (xs : List A) → map g (flat_map f xs) ≡ flat_map (λ x. map g (f x)) xs
map_flat {A} {B} {C} g f [] = refl
map_flat {A} {B} {C} g f (x ∷ xs) = over (f x) ∙ ap (λ zs. map g (f x) ++ zs) (map_flat g f xs)
  where
    over : (ys : List B) → map g (ys ++ flat_map f xs) ≡ map g ys ++ map g (flat_map f xs)
    over [] = refl
    over (y ∷ ys) = ap (λ zs. g y ∷ zs) (over ys)
