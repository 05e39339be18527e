-- Elements that are left out of a list without a change of those that come first in order.
use Rattle.std.specs.Prelude.{◌≡◌, ℕ, suc, ◌+◌, ◌≤◌, Bool, true, false, not, cond, List, [], ◌∷◌, take, drop, filter, length, ⊤, refl}
use Rattle.std.specs.Cmp.{IsStrictWeakOrder}
use Rattle.std.specs.List.{AllByRecursion, count_by}
use Rattle.std.proofs.Common.{arith, ap, sym, ◌∙◌}
use Rattle.std.proofs.lemmas.Bool.{true≢false}
use Rattle.std.proofs.lemmas.List.{drop-take, take-take}
use Rattle.std.proofs.lemmas.List.Sums.{sum_by-cons}
use Rattle.query_ast.specs.Compare.{placed, in_order}
use Rattle.hit_order.proofs.Selecting.{split, GoesUp, filter-in_order, length-in_order, placed_out}

abbrev pub one : Bool → ℕ
one b = cond b 1 0

module _ {A : Type 0} where
  -- ---- filters

  -- those that pass both of two tests
  pub filter_both : (p q : A → Bool) (xs : List A) → filter (λ x. cond (p x) (q x) false) xs ≡ filter p (filter q xs)
  filter_both p q [] = refl
  filter_both p q (x ∷ xs) =
      split (q x)
      (λ yes. split (p x) (λ own. simp (yes, own) (ap (λ ys. x ∷ ys) (filter_both p q xs))) (λ no. simp (yes, no) (filter_both p q xs)))
      (λ no. split (p x) (λ own. simp (no, own) (filter_both p q xs)) (λ out. simp (no, out) (filter_both p q xs)))

  pub filters_swap : (p q : A → Bool) (xs : List A) → filter p (filter q xs) ≡ filter q (filter p xs)
  filters_swap p q [] = refl
  filters_swap p q (x ∷ xs) =
      split (q x)
      (λ yes. split (p x) (λ own. simp (yes, own) (ap (λ ys. x ∷ ys) (filters_swap p q xs))) (λ no. simp (yes, no) (filters_swap p q xs)))
      (λ no. split (p x) (λ own. simp (no, own) (filters_swap p q xs)) (λ out. simp (no, out) (filters_swap p q xs)))

  -- a test that each one passes that passes another
  pub filter_weaker : (p q : A → Bool) → ((x : A) → p x ≡ true → q x ≡ true) → (xs : List A) → filter p (filter q xs) ≡ filter p xs
  filter_weaker p q goes [] = refl
  filter_weaker p q goes (x ∷ xs) =
      split (p x)
      (λ yes. let own : q x ≡ true = goes x yes in simp (yes, own) (ap (λ ys. x ∷ ys) (filter_weaker p q goes xs)))
      (λ no. split (q x) (λ own. simp (no, own) (filter_weaker p q goes xs)) (λ out. simp (no, out) (filter_weaker p q goes xs)))

  pub count_weaker : (p q : A → Bool) → ((x : A) → p x ≡ true → q x ≡ true) → (near : A → Bool) (xs : List A) → count_by (λ x. cond (p x) (near x) false) xs ≤ length (filter near (filter q xs))
  count_weaker p q goes near [] = omega arith
  count_weaker p q goes near (x ∷ xs) =
      let rest = filter near (filter q xs) in
      let more = count_weaker p q goes near xs in
      let step = sum_by-cons (λ y. one (cond (p y) (near y) false)) x xs in
      let within : length rest ≤ length (filter near (filter q (x ∷ xs))) =
      split (q x)
      (λ own. split (near x) (λ here. rw (own, here) (omega arith)) (λ far. rw (own, far) (omega arith)))
      (λ out. rw out (omega arith)) in
      split (p x)
      (λ yes.
      let own : q x ≡ true = goes x yes in
      split (near x)
      (λ here.
      let e : one (cond (p x) (near x) false) ≡ 1 = rw (yes, here) refl in
      let long : length (filter near (filter q (x ∷ xs))) ≡ suc (length rest) = rw (own, here) refl in
      omega (arith, more, step, e, long))
      (λ far. let e : one (cond (p x) (near x) false) ≡ 0 = rw (yes, far) refl in omega (arith, more, step, e, within)))
      (λ no. let e : one (cond (p x) (near x) false) ≡ 0 = rw no refl in omega (arith, more, step, e, within))

  -- ---- a test that those pass that come first in order

  module _ (near : A → Bool) where
    abbrev pub AllFar : List A → Type 0
    AllFar xs = AllByRecursion (λ x. near x ≡ false) xs

    -- behind one that fails all fail
    abbrev pub Parted : List A → Type 0
    Parted [] = ⊤
    Parted (x ∷ xs) = (near x ≡ false → AllFar xs) × Parted xs

    none_near : (xs : List A) → AllFar xs → filter near xs ≡ []
    none_near [] far = refl
    none_near (x ∷ xs) far = rw far.0 (none_near xs far.1)

    all_filtered : (q : A → Bool) (xs : List A) → AllFar xs → AllFar (filter q xs)
    all_filtered q [] far = tt
    all_filtered q (x ∷ xs) far = split (q x) (λ yes. rw yes (far.0, all_filtered q xs far.1)) (λ no. rw no (all_filtered q xs far.1))

    pub parted_filtered : (q : A → Bool) (xs : List A) → Parted xs → Parted (filter q xs)
    parted_filtered q [] parted = tt
    parted_filtered q (x ∷ xs) parted =
        split (q x) (λ yes. rw yes ((λ far. all_filtered q xs (parted.0 far)), parted_filtered q xs parted.1)) (λ no. rw no (parted_filtered q xs parted.1))

    pub first_near : (xs : List A) → Parted xs → filter near xs ≡ take (length (filter near xs)) xs
    first_near [] parted = refl
    first_near (x ∷ xs) parted =
        split (near x)
        (λ yes. rw yes (ap (λ ys. x ∷ ys) (first_near xs parted.1)))
        (λ no. let none : filter near xs ≡ [] = none_near xs (parted.0 no) in rw (no, none) refl)

    all_far : (xs : List A) → AllFar xs → filter (λ x. not (near x)) xs ≡ xs
    all_far [] far = refl
    all_far (x ∷ xs) far = rw far.0 (ap (λ ys. x ∷ ys) (all_far xs far.1))

    far_behind : (xs : List A) → Parted xs → filter (λ x. not (near x)) xs ≡ drop (length (filter near xs)) xs
    far_behind [] parted = refl
    far_behind (x ∷ xs) parted =
        split (near x)
        (λ yes. rw yes (far_behind xs parted.1))
        (λ no. let none : filter near xs ≡ [] = none_near xs (parted.0 no) in rw (no, none) (ap (λ ys. x ∷ ys) (all_far xs (parted.0 no))))

    module _ (lt : A → A → Bool) (o : IsStrictWeakOrder lt) (down : (x y : A) → lt x y ≡ false → near x ≡ true → near y ≡ true) where
      all_placed : (x : A) (ys : List A) → near x ≡ false → AllFar ys → AllFar (placed lt x ys)
      all_placed x [] far all = (far, tt)
      all_placed x (y ∷ ys) far all = split (lt y x) (λ yes. rw yes (all.0, all_placed x ys far all.1)) (λ no. rw no (far, all))

      further : (x y : A) → lt x y ≡ false → near y ≡ false → near x ≡ false
      further x y behind far = split (near x) (λ yes. absurd (true≢false (sym (down x y behind yes) ∙ far))) (λ no. no)

      parted_placed : (x : A) (ys : List A) → Parted ys → Parted (placed lt x ys)
      parted_placed x [] parted = ((λ far. tt), tt)
      parted_placed x (y ∷ ys) parted =
          split (lt y x)
          (λ yes. rw yes ((λ far. all_placed x ys (further x y (o.one_way y x yes) far) (parted.0 far)), parted_placed x ys parted.1))
          (λ no. rw no ((λ far. (further y x no far, parted.0 (further y x no far))), parted))

      pub parted : (xs : List A) → Parted (in_order lt xs)
      parted [] = tt
      parted (x ∷ xs) = parted_placed x (in_order lt xs) (parted xs)

      near_placed : (x : A) (ys : List A) → near x ≡ true → Parted ys → filter near (placed lt x ys) ≡ placed lt x (filter near ys)
      near_placed x [] here parted = rw here refl
      near_placed x (y ∷ ys) here parted =
          split (lt y x)
          (λ yes. let own : near y ≡ true = down x y (o.one_way y x yes) here in simp (yes, own) (ap (λ zs. y ∷ zs) (near_placed x ys here parted.1)))
          (λ no.
          split (near y)
          (λ own. simp (no, own, here) refl)
          (λ far. let none : filter near ys ≡ [] = none_near ys (parted.0 far) in simp (no, far, here, none) refl))

      -- it doesn't matter whether those that pass are chosen before or after they are put in order
      pub near_in_order : (xs : List A) → filter near (in_order lt xs) ≡ in_order lt (filter near xs)
      near_in_order [] = refl
      near_in_order (x ∷ xs) =
          split (near x)
          (λ yes. rw yes (near_placed x (in_order lt xs) yes (parted xs) ∙ ap (placed lt x) (near_in_order xs)))
          (λ no. rw no (placed_out lt near x (in_order lt xs) no ∙ near_in_order xs))

      far_up : GoesUp lt (λ x. not (near x))
      far_up x y behind far =
          split (near y)
          (λ yes. absurd (true≢false (sym far ∙ ap not (down y x behind yes))))
          (λ no. rw no refl)

      -- those that pass stand in front of all others
      pub behind_near : (xs : List A) → in_order lt (filter (λ x. not (near x)) xs) ≡ drop (length (filter near xs)) (in_order lt xs)
      behind_near xs =
          sym (filter-in_order lt (λ x. not (near x)) far_up xs)
          ∙ far_behind (in_order lt xs) (parted xs)
          ∙ ap (λ n. drop n (in_order lt xs)) (ap length (near_in_order xs) ∙ length-in_order lt (filter near xs))

      -- ---- a page of those that pass a further test, for which one may be left out that it fails and one that doesn't come near

      module _ (passes late next : A → Bool) (up : GoesUp lt passes) (late_up : GoesUp lt late) (is_late : (x : A) → passes x ≡ true → late x ≡ true) (is_next : (x : A) → next x ≡ true → passes x ≡ true) where
        abbrev page : ℕ → ℕ → List A → List A
        page from size xs = take size (drop from (filter passes (in_order lt xs)))

        pub left_out : (xs : List A) → filter passes (in_order lt (filter (λ x. cond (late x) (near x) false) xs)) ≡ filter near (filter passes (in_order lt xs))
        left_out xs =
            ap (λ ys. filter passes (in_order lt ys)) (filter_both late near xs)
            ∙ ap (filter passes) (sym (filter-in_order lt late late_up (filter near xs)))
            ∙ filter_weaker passes late is_late (in_order lt (filter near xs))
            ∙ ap (filter passes) (sym (near_in_order xs))
            ∙ filters_swap passes near (in_order lt xs)

        count_is : (xs : List A) → length (filter near (filter passes (in_order lt xs))) ≡ length (filter near (filter passes xs))
        count_is xs =
            ap (λ ys. length (filter near ys)) (filter-in_order lt passes up xs)
            ∙ ap length (near_in_order (filter passes xs))
            ∙ length-in_order lt (filter near (filter passes xs))

        pub page_of_near : (most from size : ℕ) (xs : List A) → most ≤ count_by (λ x. cond (next x) (near x) false) xs → from + size ≤ most
            → page from size (filter (λ x. cond (late x) (near x) false) xs) ≡ page from size xs
        page_of_near most from size xs enough within =
            let all = filter passes (in_order lt xs) in
            let count = length (filter near all) in
            let long : from + size ≤ count = omega (arith, enough, within, count_is xs, count_weaker next passes is_next near xs) in
            ap (λ ys. take size (drop from ys)) (left_out xs ∙ first_near all (parted_filtered passes (in_order lt xs) (parted xs)))
            ∙ sym (drop-take from size (take count all))
            ∙ ap (drop from) (take-take (from + size) count all long)
            ∙ drop-take from size all
