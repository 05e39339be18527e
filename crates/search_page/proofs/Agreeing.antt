-- Lists that agree element by element, and pages of them.
use Rattle.std.proofs.Common.{◌≡◌, ℕ, zero, suc, ℤ, Bool, true, false, List as Seq, [], ◌∷◌, ◌++◌, length, map, filter, take, drop, Option, Some, None, refl, sym, ap, ◌∙◌}
use Rattle.std.specs.List.{filter_map, cons_option}
use Rattle.query_ast.specs.Compare.{in_order, placed}
use Rattle.query_ast.specs.Page.{comes_after, comes_before, page_of}
use Rattle.query_ast.specs.declared.sort.Direction.{Direction}
use Rattle.query_ast.specs.declared.sort.Key.{Key}
use Rattle.query_ast.specs.declared.sort.KeyRow.{KeyRow}

by_test : {G : Type 0} (t : Bool) → (t ≡ true → G) → (t ≡ false → G) → G
by_test true held failed = held refl
by_test false held failed = failed refl

module _ {A B : Type 0} (R : A → B → Type 0) where
  abbrev pub Agree : Seq A → Seq B → Type 0
  Agree [] [] = Unit {0}
  Agree [] (y ∷ ys) = ⊥
  Agree (x ∷ xs) [] = ⊥
  Agree (x ∷ xs) (y ∷ ys) = R x y × Agree xs ys

  pub agree_append : (xs : Seq A) (ys : Seq B) (more : Seq A) (others : Seq B) → Agree xs ys → Agree more others → Agree (xs ++ more) (ys ++ others)
  agree_append [] [] more others own rest = rest
  agree_append [] (y ∷ ys) more others own rest = absurd own
  agree_append (x ∷ xs) [] more others own rest = absurd own
  agree_append (x ∷ xs) (y ∷ ys) more others own rest = (own.0, agree_append xs ys more others own.1 rest)

  -- what the elements give is the same, and each of the first gives something
  pub agree_shown : {C : Type 0} (f : A → Option C) (g : B → C) → ((x : A) (y : B) → R x y → f x ≡ Some (g y)) → (xs : Seq A) (ys : Seq B) → Agree xs ys → filter_map f xs ≡ map g ys
  agree_shown f g shown [] [] own = refl
  agree_shown f g shown [] (y ∷ ys) own = absurd own
  agree_shown f g shown (x ∷ xs) [] own = absurd own
  agree_shown {C} f g shown (x ∷ xs) (y ∷ ys) own =
      ap (λ (o : Option C). cons_option o (filter_map f xs)) (shown x y own.0) ∙ ap (λ (l : Seq C). g y ∷ l) (agree_shown f g shown xs ys own.1)

  agree_take : (n : ℕ) (xs : Seq A) (ys : Seq B) → Agree xs ys → Agree (take n xs) (take n ys)
  agree_take zero xs ys own = tt
  agree_take (suc n) [] [] own = tt
  agree_take (suc n) [] (y ∷ ys) own = absurd own
  agree_take (suc n) (x ∷ xs) [] own = absurd own
  agree_take (suc n) (x ∷ xs) (y ∷ ys) own = (own.0, agree_take n xs ys own.1)

  agree_drop : (n : ℕ) (xs : Seq A) (ys : Seq B) → Agree xs ys → Agree (drop n xs) (drop n ys)
  agree_drop zero xs ys own = own
  agree_drop (suc n) [] [] own = tt
  agree_drop (suc n) [] (y ∷ ys) own = absurd own
  agree_drop (suc n) (x ∷ xs) [] own = absurd own
  agree_drop (suc n) (x ∷ xs) (y ∷ ys) own = agree_drop n xs ys own.1

  agree_filter : (p : A → Bool) (q : B → Bool) → ((x : A) (y : B) → R x y → p x ≡ q y) → (xs : Seq A) (ys : Seq B) → Agree xs ys → Agree (filter p xs) (filter q ys)
  agree_filter p q same [] [] own = tt
  agree_filter p q same [] (y ∷ ys) own = absurd own
  agree_filter p q same (x ∷ xs) [] own = absurd own
  agree_filter p q same (x ∷ xs) (y ∷ ys) own =
      by_test (p x)
      (λ yes. let other : q y ≡ true = sym (same x y own.0) ∙ yes in rw (yes, other) (own.0, agree_filter p q same xs ys own.1))
      (λ no. let other : q y ≡ false = sym (same x y own.0) ∙ no in rw (no, other) (agree_filter p q same xs ys own.1))

  module _ (lt : A → A → Bool) (below : B → B → Bool) (same : (w x : A) (v y : B) → R w v → R x y → lt w x ≡ below v y) where
    agree_placed : (x : A) (y : B) (xs : Seq A) (ys : Seq B) → R x y → Agree xs ys → Agree (placed lt x xs) (placed below y ys)
    agree_placed x y [] [] new own = (new, tt)
    agree_placed x y [] (v ∷ ys) new own = absurd own
    agree_placed x y (w ∷ xs) [] new own = absurd own
    agree_placed x y (w ∷ xs) (v ∷ ys) new own =
        by_test (lt w x)
        (λ yes. let other : below v y ≡ true = sym (same w x v y own.0 new) ∙ yes in rw (yes, other) (own.0, agree_placed x y xs ys new own.1))
        (λ no. let other : below v y ≡ false = sym (same w x v y own.0 new) ∙ no in rw (no, other) (new, own))

    agree_in_order : (xs : Seq A) (ys : Seq B) → Agree xs ys → Agree (in_order lt xs) (in_order below ys)
    agree_in_order [] [] own = tt
    agree_in_order [] (y ∷ ys) own = absurd own
    agree_in_order (x ∷ xs) [] own = absurd own
    agree_in_order (x ∷ xs) (y ∷ ys) own = agree_placed x y (in_order lt xs) (in_order below ys) own.0 (agree_in_order xs ys own.1)

  module _ (keys : A → Seq Key) (number : A → ℤ) (other_keys : B → Seq Key) (other_number : B → ℤ)
      (same_keys : (x : A) (y : B) → R x y → keys x ≡ other_keys y) (same_number : (x : A) (y : B) → R x y → number x ≡ other_number y) (ds : Seq Direction) where
    before_same : (w x : A) (v y : B) → R w v → R x y → comes_before keys number ds w x ≡ comes_before other_keys other_number ds v y
    before_same w x v y one other = rw (same_keys w v one, same_number w v one, same_keys x y other, same_number x y other) refl

    after_same : (after : Option KeyRow) (x : A) (y : B) → R x y → comes_after keys number ds after x ≡ comes_after other_keys other_number ds after y
    after_same None x y own = refl
    after_same (Some row) x y own = rw (same_keys x y own, same_number x y own) refl

    -- pages of rows that agree agree
    pub agree_page : (after : Option KeyRow) (from size : ℕ) (xs : Seq A) (ys : Seq B) → Agree xs ys → Agree (page_of keys number ds after from size xs) (page_of other_keys other_number ds after from size ys)
    unfolding page_of
    agree_page after from size xs ys own =
        agree_take size (drop from (filter (comes_after keys number ds after) (in_order (comes_before keys number ds) xs))) (drop from (filter (comes_after other_keys other_number ds after) (in_order (comes_before other_keys other_number ds) ys)))
        (agree_drop from (filter (comes_after keys number ds after) (in_order (comes_before keys number ds) xs)) (filter (comes_after other_keys other_number ds after) (in_order (comes_before other_keys other_number ds) ys))
        (agree_filter (comes_after keys number ds after) (comes_after other_keys other_number ds after) (after_same after) (in_order (comes_before keys number ds) xs) (in_order (comes_before other_keys other_number ds) ys)
        (agree_in_order (comes_before keys number ds) (comes_before other_keys other_number ds) before_same xs ys own)))
