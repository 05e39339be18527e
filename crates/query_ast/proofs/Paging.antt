-- A page is a part of the one sorted list, and pages by `search_after` meet.
use Rattle.std.specs.Prelude.{◌≡◌, ℕ, zero, suc, ◌+◌, Bool, true, false, List, [], ◌∷◌, ◌++◌, take, drop, filter, refl, ⊤}
use Rattle.std.specs.Cmp.{IsStrictWeakOrder}
use Rattle.std.specs.List.{AllByRecursion}
use Rattle.std.proofs.Common.{arith, ap, sym, ◌∙◌}
use Rattle.std.proofs.lemmas.Bool.{true≢false}
use Rattle.std.proofs.lemmas.List.{take-append-drop, append_assoc}
use Rattle.query_ast.specs.Compare.{placed, in_order}
use Rattle.query_ast.proofs.Sorting.{split, all_as, all_placed, all_in_order, Rises}

module _ {A : Type 0} where
  -- ---- what comes after a row is the end of a sorted list

  -- what stands behind one that passes passes too
  abbrev pub Climbs_to : (A → Bool) → List A → Type 0
  Climbs_to q [] = ⊤
  Climbs_to q (x ∷ xs) = (q x ≡ true → AllByRecursion (λ y. q y ≡ true) xs) × Climbs_to q xs

  all_pass : (q : A → Bool) (xs : List A) → AllByRecursion (λ y. q y ≡ true) xs → filter q xs ≡ xs
  all_pass q [] h = refl
  all_pass q (x ∷ xs) h = rw (h.0, all_pass q xs h.1) refl

  pub passing_are_last : (q : A → Bool) (xs : List A) → Climbs_to q xs → (n : ℕ) × (filter q xs ≡ drop n xs)
  passing_are_last q [] h = (0, refl)
  passing_are_last q (x ∷ xs) h =
      split (q x)
      (λ yes. (0, rw yes (ap (λ ys. x ∷ ys) (all_pass q xs (h.0 yes)))))
      (λ no. let rest = passing_are_last q xs h.1 in (suc rest.0, rw no rest.1))

  pub after_climbs : {lt : A → A → Bool} → IsStrictWeakOrder lt → (q : A → Bool) → ((x y : A) → lt y x ≡ false → q x ≡ true → q y ≡ true) → (xs : List A) → Rises lt xs → Climbs_to q xs
  after_climbs o q up [] h = tt
  after_climbs o q up (x ∷ xs) h = ((λ yes. all_as (λ y not_less. up x y not_less yes) xs h.0), after_climbs o q up xs h.1)

  drop_none : (n : ℕ) → (let none : List A = [] in drop n none ≡ none)
  drop_none zero = refl
  drop_none (suc n) = refl

  drop_more : (n more : ℕ) (xs : List A) → drop more (drop n xs) ≡ drop (n + more) xs
  drop_more zero more xs = let e : 0 + more ≡ more = omega arith in rw e refl
  drop_more (suc n) more [] = let e : suc n + more ≡ suc (n + more) = omega arith in rw e (drop_none more)
  drop_more (suc n) more (x ∷ xs) = let e : suc n + more ≡ suc (n + more) = omega arith in rw e (drop_more n more xs)

  pub page_is_part : (q : A → Bool) (xs : List A) → Climbs_to q xs → (from size : ℕ) → (n : ℕ) × (take size (drop from (filter q xs)) ≡ take size (drop (n + from) xs))
  page_is_part q xs h from size =
      let last = passing_are_last q xs h in
      (last.0, ap (λ ys. take size (drop from ys)) last.1 ∙ ap (take size) (drop_more last.0 from xs))

  -- ---- rows of which no two tie

  abbrev pub Ascends : (A → A → Bool) → List A → Type 0
  Ascends lt [] = ⊤
  Ascends lt (x ∷ xs) = AllByRecursion (λ y. lt x y ≡ true) xs × Ascends lt xs

  abbrev pub Parted : (A → A → Bool) → A → A → Type 0
  Parted lt x y = lt y x ≡ false → lt x y ≡ true

  abbrev pub AreParted : (A → A → Bool) → List A → Type 0
  AreParted lt [] = ⊤
  AreParted lt (x ∷ xs) = AllByRecursion (Parted lt x) xs × AreParted lt xs

  goes_on : {lt : A → A → Bool} → IsStrictWeakOrder lt → (x y z : A) → lt x y ≡ true → lt y z ≡ true → lt x z ≡ true
  goes_on {lt} o x y z a b =
      split (lt x z) (λ yes. yes) (λ no. absurd (true≢false (sym a ∙ o.chain x z y no (o.one_way y z b))))

  placed_ascends : {lt : A → A → Bool} → IsStrictWeakOrder lt → (x : A) (ys : List A) → AllByRecursion (Parted lt x) ys → Ascends lt ys → Ascends lt (placed lt x ys)
  placed_ascends o x [] parted h = (tt, tt)
  placed_ascends {lt} o x (y ∷ ys) parted h =
      split (lt y x)
      (λ behind. rw behind (all_placed lt (λ z. lt y z ≡ true) x ys behind h.0, placed_ascends o x ys parted.1 h.1))
      (λ before. let less = parted.0 before in rw before ((less, all_as (λ z p. goes_on o x y z less p) ys h.0), h))

  pub in_order_ascends : {lt : A → A → Bool} → IsStrictWeakOrder lt → (xs : List A) → AreParted lt xs → Ascends lt (in_order lt xs)
  in_order_ascends o [] parted = tt
  in_order_ascends {lt} o (x ∷ xs) parted =
      placed_ascends o x (in_order lt xs) (all_in_order lt (Parted lt x) xs parted.0) (in_order_ascends o xs parted.1)

  -- ---- what comes after a row of an ascending list

  all_filter : (P : A → Type 0) (q : A → Bool) (xs : List A) → AllByRecursion P xs → AllByRecursion P (filter q xs)
  all_filter P q [] h = tt
  all_filter P q (x ∷ xs) h = split (q x) (λ yes. rw yes (h.0, all_filter P q xs h.1)) (λ no. rw no (all_filter P q xs h.1))

  filter_ascends : (lt : A → A → Bool) (q : A → Bool) (xs : List A) → Ascends lt xs → Ascends lt (filter q xs)
  filter_ascends lt q [] h = tt
  filter_ascends lt q (x ∷ xs) h =
      split (q x) (λ yes. rw yes (all_filter (λ y. lt x y ≡ true) q xs h.0, filter_ascends lt q xs h.1)) (λ no. rw no (filter_ascends lt q xs h.1))

  filter_passes : (q : A → Bool) (xs : List A) → AllByRecursion (λ y. q y ≡ true) (filter q xs)
  filter_passes q [] = tt
  filter_passes q (x ∷ xs) = split (q x) (λ yes. rw yes (yes, filter_passes q xs)) (λ no. rw no (filter_passes q xs))

  filter_within : (p q : A → Bool) → ((x : A) → p x ≡ true → q x ≡ true) → (xs : List A) → filter p xs ≡ filter p (filter q xs)
  filter_within p q f [] = refl
  filter_within p q f (x ∷ xs) =
      split (p x)
      (λ yes. rw (f x yes, yes) (ap (λ ys. x ∷ ys) (filter_within p q f xs)))
      (λ no. split (q x) (λ passes. rw (passes, no) (filter_within p q f xs)) (λ fails. rw (no, fails) (filter_within p q f xs)))

  all_at : (P : A → Type 0) (front : List A) (x : A) (rest : List A) → AllByRecursion P (front ++ (x ∷ rest)) → P x
  all_at P [] x rest h = h.0
  all_at P (y ∷ front) x rest h = all_at P front x rest h.1

  after_itself : {lt : A → A → Bool} → IsStrictWeakOrder lt → (front : List A) (last : A) (rest : List A) → Ascends lt (front ++ (last ∷ rest)) → filter (lt last) (front ++ (last ∷ rest)) ≡ rest
  after_itself {lt} o [] last rest h =
      split (lt last last)
      (λ yes. absurd (true≢false (sym yes ∙ o.one_way last last yes)))
      (λ no. rw no (all_pass (lt last) rest h.0))
  after_itself {lt} o (f ∷ front) last rest h =
      rw (o.one_way f last (all_at (λ y. lt f y ≡ true) front last rest h.0)) (after_itself o front last rest h.1)

  take_none : (n : ℕ) → (let none : List A = [] in take n none ≡ none)
  take_none zero = refl
  take_none (suc n) = refl

  pub take_more : (n more : ℕ) (xs : List A) → take n xs ++ take more (drop n xs) ≡ take (n + more) xs
  take_more zero more xs = let e : 0 + more ≡ more = omega arith in rw e refl
  take_more (suc n) more [] = let e : suc n + more ≡ suc (n + more) = omega arith in rw e (take_none more)
  take_more (suc n) more (x ∷ xs) = let e : suc n + more ≡ suc (n + more) = omega arith in rw e (ap (λ ys. x ∷ ys) (take_more n more xs))

  regrouped : (before front : List A) (last : A) (rest : List A) → before ++ ((front ++ (last ∷ [])) ++ rest) ≡ (before ++ front) ++ (last ∷ rest)
  regrouped before front last rest = simp append_assoc refl

  -- the page that begins after the last row of a page goes on where that one ends
  pub pages_meet : {lt : A → A → Bool} → IsStrictWeakOrder lt → (q : A → Bool) → ((x y : A) → lt y x ≡ false → q x ≡ true → q y ≡ true) → (xs : List A) → Ascends lt xs → (from size more : ℕ) (front : List A) (last : A) → take size (drop from (filter q xs)) ≡ front ++ (last ∷ []) → take size (drop from (filter q xs)) ++ take more (filter (lt last) xs) ≡ take (size + more) (drop from (filter q xs))
  pages_meet {lt} o q up xs ascends from size more front last page =
      let rest = drop size (drop from (filter q xs)) in
      let before = take from (filter q xs) ++ front in
      let tail : drop from (filter q xs) ≡ (front ++ (last ∷ [])) ++ rest = sym (take-append-drop size (drop from (filter q xs))) ∙ ap (λ ys. ys ++ rest) page in
      let whole : filter q xs ≡ before ++ (last ∷ rest) = sym (take-append-drop from (filter q xs)) ∙ (ap (λ ys. take from (filter q xs) ++ ys) tail ∙ regrouped (take from (filter q xs)) front last rest) in
      let passes : q last ≡ true = all_at (λ y. q y ≡ true) before last rest (rw whole at (filter_passes q xs)) in
      let inside : filter (lt last) xs ≡ filter (lt last) (filter q xs) = filter_within (lt last) q (λ x less. up last x (o.one_way last x less) passes) xs in
      let found : filter (lt last) (before ++ (last ∷ rest)) ≡ rest = after_itself o before last rest (rw whole at (filter_ascends lt q xs ascends)) in
      let so : filter (lt last) xs ≡ rest = inside ∙ (ap (filter (lt last)) whole ∙ found) in
      rw so (take_more size more (drop from (filter q xs)))
