-- A list put in order is the one list that is sorted, has the same elements, and keeps equal ones as they came.
use Rattle.std.specs.Prelude.{◌≡◌, zero, suc, ◌+◌, Bool, true, false, List, [], ◌∷◌, get_or, drop, refl, ⊤, ◌&&◌, not, filter}
use Rattle.std.specs.Cmp.{IsStrictWeakOrder}
use Rattle.std.specs.List.{AllByRecursion}
use Rattle.std.specs.List.Sorted.{IsPermutation, IsSortedBy, IsStableBy, ties}
use Rattle.std.proofs.Common.{arith, ap, sym, subst, ◌∙◌}
use Rattle.std.proofs.lemmas.Bool.{true≢false}
use Rattle.std.proofs.lemmas.List.Elements.{recursion_from_All}
use Rattle.std.proofs.lemmas.List.Sorted.{IsPermutation-refl, IsPermutation-cons, IsPermutation-trans, IsPermutation-middle, sorted_far}
use Rattle.query_ast.specs.Compare.{placed, in_order}

-- the two answers of a test
pub split : {G : Type 0} (t : Bool) → (t ≡ true → G) → (t ≡ false → G) → G
split true held failed = held refl
split false held failed = failed refl

-- neither of two that tie comes before the other
tied_back : (a b : Bool) → (not a && not b) ≡ true → b ≡ false
tied_back true true e = absurd (true≢false (sym e))
tied_back true false e = refl
tied_back false true e = absurd (true≢false (sym e))
tied_back false false e = refl

no_front : {A : Type 0} (x : A) (xs : List A) → [] ≡ x ∷ xs → ⊥
no_front x xs e = cc

module _ {A : Type 0} where
  -- the same, element by element
  pub all_as : {P Q : A → Type 0} → ((x : A) → P x → Q x) → (xs : List A) → AllByRecursion P xs → AllByRecursion Q xs
  all_as f [] h = tt
  all_as f (x ∷ xs) h = (f x h.0, all_as f xs h.1)

  -- ---- the same elements

  -- the two at the front change places
  swapped : (x y : A) (zs : List A) → IsPermutation (x ∷ y ∷ zs) (y ∷ x ∷ zs)
  swapped x y zs = IsPermutation-middle (x ∷ []) y zs

  placed_has : (lt : A → A → Bool) (x : A) (ys : List A) → IsPermutation (x ∷ ys) (placed lt x ys)
  placed_has lt x [] = IsPermutation-refl (x ∷ [])
  placed_has lt x (y ∷ ys) =
      split (lt y x)
      (λ behind. rw behind (IsPermutation-trans (x ∷ y ∷ ys) (y ∷ x ∷ ys) (y ∷ placed lt x ys) (swapped x y ys) (IsPermutation-cons y (x ∷ ys) (placed lt x ys) (placed_has lt x ys))))
      (λ before. rw before (IsPermutation-refl (x ∷ y ∷ ys)))

  pub in_order_has : (lt : A → A → Bool) (xs : List A) → IsPermutation xs (in_order lt xs)
  in_order_has lt [] = IsPermutation-refl []
  in_order_has lt (x ∷ xs) =
      IsPermutation-trans (x ∷ xs) (x ∷ in_order lt xs) (placed lt x (in_order lt xs))
      (IsPermutation-cons x xs (in_order lt xs) (in_order_has lt xs)) (placed_has lt x (in_order lt xs))

  pub all_placed : (lt : A → A → Bool) (P : A → Type 0) (x : A) (ys : List A) → P x → AllByRecursion P ys → AllByRecursion P (placed lt x ys)
  all_placed lt P x [] p h = (p, tt)
  all_placed lt P x (y ∷ ys) p h =
      split (lt y x) (λ behind. rw behind (h.0, all_placed lt P x ys p h.1)) (λ before. rw before (p, h))

  pub all_in_order : (lt : A → A → Bool) (P : A → Type 0) (xs : List A) → AllByRecursion P xs → AllByRecursion P (in_order lt xs)
  all_in_order lt P [] h = tt
  all_in_order lt P (x ∷ xs) h = all_placed lt P x (in_order lt xs) h.0 (all_in_order lt P xs h.1)

  -- ---- in order: none comes before one that stands before it

  abbrev pub Rises : (A → A → Bool) → List A → Type 0
  Rises lt [] = ⊤
  Rises lt (x ∷ xs) = AllByRecursion (λ y. lt y x ≡ false) xs × Rises lt xs

  placed_rises : {lt : A → A → Bool} → IsStrictWeakOrder lt → (x : A) (ys : List A) → Rises lt ys → Rises lt (placed lt x ys)
  placed_rises o x [] h = (tt, tt)
  placed_rises {lt} o x (y ∷ ys) h =
      split (lt y x)
      (λ behind. rw behind (all_placed lt (λ z. lt z y ≡ false) x ys (o.one_way y x behind) h.0, placed_rises o x ys h.1))
      (λ before. rw before ((before, all_as (λ z p. o.chain z y x p before) ys h.0), h))

  pub in_order_rises : {lt : A → A → Bool} → IsStrictWeakOrder lt → (xs : List A) → Rises lt (in_order lt xs)
  in_order_rises o [] = tt
  in_order_rises {lt} o (x ∷ xs) = placed_rises o x (in_order lt xs) (in_order_rises o xs)

  pub rising_is_sorted : (lt : A → A → Bool) (xs : List A) → Rises lt xs → IsSortedBy lt xs
  rising_is_sorted lt [] h k d from to = absurd (omega arith)
  rising_is_sorted lt (x ∷ []) h k d from to = absurd (omega arith)
  rising_is_sorted lt (x ∷ y ∷ ys) h zero d from to = h.0.0
  rising_is_sorted lt (x ∷ y ∷ ys) h (suc k) d from to =
      let e : suc k + 1 ≡ suc (k + 1) = omega arith in
      rw e (rising_is_sorted lt (y ∷ ys) h.1 k d (omega arith) (omega arith))

  -- ---- equal elements as they came

  unlike : {lt : A → A → Bool} → IsStrictWeakOrder lt → (z y x : A) → ties lt z y ≡ true → lt y x ≡ true → ties lt z x ≡ false
  unlike {lt} o z y x same behind =
      split (lt z x)
      (λ less. rw less refl)
      (λ not_less. absurd (true≢false (sym behind ∙ o.chain y z x (tied_back (lt z y) (lt y z) same) not_less)))

  placed_ties : {lt : A → A → Bool} → IsStrictWeakOrder lt → (z x : A) (ys : List A) → filter (ties lt z) (placed lt x ys) ≡ filter (ties lt z) (x ∷ ys)
  placed_ties o z x [] = refl
  placed_ties {lt} o z x (y ∷ ys) =
      split (lt y x)
      (λ behind. rw behind (split (ties lt z y)
      (λ same. rw (same, placed_ties o z x ys, unlike o z y x same behind) refl)
      (λ other. rw (other, placed_ties o z x ys) refl)))
      (λ before. rw before refl)

  same_rest : (t : A → Bool) (x : A) (xs ys : List A) → filter t xs ≡ filter t ys → filter t (x ∷ xs) ≡ filter t (x ∷ ys)
  same_rest t x xs ys e = split (t x) (λ yes. rw yes (ap (λ zs. x ∷ zs) e)) (λ no. rw no e)

  pub in_order_ties : {lt : A → A → Bool} → IsStrictWeakOrder lt → (xs : List A) → IsStableBy lt xs (in_order lt xs)
  in_order_ties o [] z = refl
  in_order_ties {lt} o (x ∷ xs) z = placed_ties o z x (in_order lt xs) ∙ same_rest (ties lt z) x (in_order lt xs) xs (in_order_ties o xs z)

  -- ---- the one such list

  itself : {lt : A → A → Bool} → IsStrictWeakOrder lt → (x : A) → lt x x ≡ false
  itself {lt} o x = split (lt x x) (λ yes. absurd (true≢false (sym yes ∙ o.one_way x x yes))) (λ no. no)

  -- nothing ties with what comes before the first
  none_ties : {lt : A → A → Bool} → IsStrictWeakOrder lt → (u v : A) → lt u v ≡ true → (vs : List A) → AllByRecursion (λ y. lt y v ≡ false) vs → filter (ties lt u) vs ≡ []
  none_ties o u v less [] h = refl
  none_ties {lt} o u v less (y ∷ ys) h =
      split (lt u y)
      (λ yes. rw yes (none_ties o u v less ys h.1))
      (λ no. absurd (true≢false (sym less ∙ o.chain u y v no h.0)))

  cut_rest : (t : A → Bool) (x : A) (xs ys : List A) → filter t (x ∷ xs) ≡ filter t (x ∷ ys) → filter t xs ≡ filter t ys
  cut_rest t x xs ys e =
      split (t x)
      (λ yes. let so : x ∷ filter t xs ≡ x ∷ filter t ys = rw yes at e in ap (λ zs. drop 1 zs) so)
      (λ no. rw no at e)

  same_rising : {lt : A → A → Bool} → IsStrictWeakOrder lt → (us vs : List A) → Rises lt us → Rises lt vs → ((x : A) → filter (ties lt x) us ≡ filter (ties lt x) vs) → us ≡ vs
  same_rising o [] [] a b same = refl
  same_rising {lt} o [] (v ∷ vs) a b same = absurd (no_front v (filter (ties lt v) vs) (rw (itself o v) at (same v)))
  same_rising {lt} o (u ∷ us) [] a b same = absurd (no_front u (filter (ties lt u) us) (sym (rw (itself o u) at (same u))))
  same_rising {lt} o (u ∷ us) (v ∷ vs) a b same =
      split (lt u v)
      (λ less. absurd (no_front u (filter (ties lt u) us) (sym (none_ties o u v less (v ∷ vs) (itself o v, b.0)) ∙ sym (rw (itself o u) at (same u)))))
      (λ not_less. split (lt v u)
      (λ greater. absurd (no_front v (filter (ties lt v) vs) (sym (none_ties o v u greater (u ∷ us) (itself o u, a.0)) ∙ rw (itself o v) at (same v))))
      (λ level. let front : u ∷ filter (ties lt u) us ≡ v ∷ filter (ties lt u) vs = rw (itself o u, not_less, level) at (same u) in
      let first : u ≡ v = ap (λ zs. get_or zs 0 u) front in
      let more : u ∷ us ≡ u ∷ vs = ap (λ zs. u ∷ zs) (same_rising o us vs a.1 b.1 (λ x. cut_rest (ties lt x) u us vs (subst (λ w. filter (ties lt x) (u ∷ us) ≡ filter (ties lt x) (w ∷ vs)) (sym first) (same x)))) in
      subst (λ w. u ∷ us ≡ w ∷ vs) first more))

  -- a list that is sorted rises
  sorted_rises : {lt : A → A → Bool} → IsStrictWeakOrder lt → (xs : List A) → IsSortedBy lt xs → Rises lt xs
  sorted_rises o [] h = tt
  sorted_rises {lt} o (x ∷ xs) h = (
    recursion_from_All (λ y. lt y x ≡ false) xs (λ k d to. let e : k + 1 ≡ suc k = omega arith in let far : lt (get_or (x ∷ xs) (k + 1) d) x ≡ false = sorted_far lt o (x ∷ xs) h 0 (k + 1) d (omega arith) (omega arith) in rw e at far),
    sorted_rises o xs (λ k d from to. let e : k + 1 ≡ suc k = omega arith in let f : suc k + 1 ≡ suc (k + 1) = omega arith in let here : lt (get_or (x ∷ xs) (suc k + 1) d) (get_or (x ∷ xs) (suc k) d) ≡ false = h (suc k) d (omega arith) (omega arith) in rw f at here),
  )

  pub sorted_is_in_order : {lt : A → A → Bool} → IsStrictWeakOrder lt → (xs ys : List A) → IsSortedBy lt ys → IsStableBy lt xs ys → ys ≡ in_order lt xs
  sorted_is_in_order {lt} o xs ys sorted stable =
      same_rising o ys (in_order lt xs) (sorted_rises o ys sorted) (in_order_rises o xs) (λ x. stable x ∙ sym (in_order_ties o xs x))
