-- Different objects: of runs of the same ones each is taken once.
use Rattle.std.proofs.Common.{◌≡◌, ◌≢◌, ℕ, suc, ◌==◌, ◌<◌, Bool, true, false, ◌&&◌, List, [], ◌∷◌, ◌++◌, length, filter, get_or, refl, ap, subst, ◌∙◌, arith}
use Rattle.std.specs.List.{flat_map, list_any}
use Rattle.std.proofs.lemmas.Bool.{and_parts, eq-eqb, eqb-true}
use Rattle.query_ast.specs.Buckets.{is_same_object}
use Rattle.query_ast.specs.Compare.{each_once, each_once_but}
use Rattle.tree_objects.specs.Object.{Object, root, inside, place, tree_of}
use Rattle.query_ast.proofs.Elements.{Apart, Each, by_test, each_as}

-- ---- runs

module _ {A : Type 0} (same : A → A → Bool) where
  abbrev pub some_in : List A → Bool
  some_in [] = false
  some_in (x ∷ xs) = true

  met_again : (x : A) (run met rest : List A) → Each (λ (y : A). y ≡ x) run → list_any (same x) met ≡ true → each_once_but same met (run ++ rest) ≡ each_once_but same met rest
  met_again x [] met rest h is = refl
  met_again x (y ∷ run) met rest h is =
      let here : list_any (same y) met ≡ true = ap (λ z. list_any (same z) met) h.0 ∙ is in
      rw here (met_again x run met rest h.1 is)

  runs : (itself : (x : A) → same x x ≡ true) (run_of : A → List A) (xs met : List A) → Each (λ (x : A). Each (λ (y : A). y ≡ x) (run_of x)) xs → Each (λ (x : A). list_any (same x) met ≡ false) xs → Apart same xs
      → each_once_but same met (flat_map run_of xs) ≡ filter (λ x. some_in (run_of x)) xs
  runs itself run_of [] met runs_are fresh apart = refl
  runs itself run_of (x ∷ xs) met runs_are fresh apart =
      by (run_of x) refl runs_are.0 (runs itself run_of xs met runs_are.1 fresh.1 apart.1) (runs itself run_of xs (x ∷ met) runs_are.1 (both xs apart.0 fresh.1) apart.1)
    where
      both : (zs : List A) → Each (λ (z : A). same z x ≡ false) zs → Each (λ (z : A). list_any (same z) met ≡ false) zs → Each (λ (z : A). list_any (same z) (x ∷ met) ≡ false) zs
      both [] h g = tt
      both (z ∷ zs) h g = (rw h.0 g.0, both zs h.1 g.1)

      by : (run : List A) → run_of x ≡ run → Each (λ (y : A). y ≡ x) (run_of x)
          → each_once_but same met (flat_map run_of xs) ≡ filter (λ x. some_in (run_of x)) xs
          → each_once_but same (x ∷ met) (flat_map run_of xs) ≡ filter (λ x. some_in (run_of x)) xs
          → each_once_but same met (flat_map run_of (x ∷ xs)) ≡ filter (λ x. some_in (run_of x)) (x ∷ xs)
      by [] is alike rest later = rw is rest
      by (y ∷ run) is alike rest later =
          let own : Each (λ (y : A). y ≡ x) (y ∷ run) = subst (Each (λ (y : A). y ≡ x)) is alike in
          let first : y ≡ x = own.0 in
          let new : list_any (same y) met ≡ false = ap (λ z. list_any (same z) met) first ∙ fresh.0 in
          let again : list_any (same x) (x ∷ met) ≡ true = rw (itself x) refl in
          rw is (rw new (ap (λ z. z ∷ each_once_but same (z ∷ met) (run ++ flat_map run_of xs)) first
          ∙ ap (λ zs. x ∷ zs) (met_again x run (x ∷ met) (flat_map run_of xs) own.1 again ∙ later)))

  pub runs_once : (itself : (x : A) → same x x ≡ true) (run_of : A → List A) (xs : List A) → Each (λ (x : A). Each (λ (y : A). y ≡ x) (run_of x)) xs → Apart same xs → each_once same (flat_map run_of xs) ≡ filter (λ x. some_in (run_of x)) xs
  runs_once itself run_of xs runs_are apart = runs itself run_of xs [] runs_are (nothing_met xs) apart
    where
      nothing_met : (xs : List A) → Each (λ (x : A). list_any (same x) [] ≡ false) xs
      nothing_met [] = tt
      nothing_met (x ∷ xs) = (refl, nothing_met xs)

  pub apart_append : (xs ys : List A) → Apart same xs → Apart same ys → Each (λ (y : A). Each (λ (x : A). same y x ≡ false) xs) ys → Apart same (xs ++ ys)
  apart_append [] ys h g between = g
  apart_append (x ∷ xs) ys h g between = (
    both xs ys h.0 (each_as (λ (y : A). Each (λ (z : A). same y z ≡ false) (x ∷ xs)) (λ (y : A). same y x ≡ false) (λ y p. p.0) ys between),
    apart_append xs ys h.1 g (each_as (λ (y : A). Each (λ (z : A). same y z ≡ false) (x ∷ xs)) (λ (y : A). Each (λ (z : A). same y z ≡ false) xs) (λ y p. p.1) ys between),
  )
    where
      both : (us vs : List A) → Each (λ (y : A). same y x ≡ false) us → Each (λ (y : A). same y x ≡ false) vs → Each (λ (y : A). same y x ≡ false) (us ++ vs)
      both [] vs p q = q
      both (u ∷ us) vs p q = (p.0, both us vs p.1 q)

  pub apart_kept : (test : A → Bool) (xs : List A) → Apart same xs → Apart same (filter test xs)
  apart_kept test [] h = tt
  apart_kept test (x ∷ xs) h =
      by_test (test x) (λ held. rw held (kept xs h.0, apart_kept test xs h.1)) (λ failed. rw failed (apart_kept test xs h.1))
    where
      kept : (ys : List A) → Each (λ (y : A). same y x ≡ false) ys → Each (λ (y : A). same y x ≡ false) (filter test ys)
      kept [] p = tt
      kept (y ∷ ys) p = by_test (test y) (λ held. rw held (p.0, kept ys p.1)) (λ failed. rw failed (kept ys p.1))

  -- by indexes
  pub apart_by : (xs : List A) → ((i j : ℕ) (d : A) → i < j → j < length xs → same (get_or xs j d) (get_or xs i d) ≡ false) → Apart same xs
  apart_by [] h = tt
  apart_by (x ∷ xs) h = (first xs (λ k d low. h 0 (suc k) d (omega arith) (omega (arith, low))), apart_by xs (λ i j d less low. h (suc i) (suc j) d (omega (arith, less)) (omega (arith, low))))
    where
      first : (ys : List A) → ((k : ℕ) (d : A) → k < length ys → same (get_or ys k d) x ≡ false) → Each (λ (y : A). same y x ≡ false) ys
      first [] g = tt
      first (y ∷ ys) g = (g 0 y (omega arith), first ys (λ k d low. g (suc k) d (omega (arith, low))))

-- ---- objects

pub same_itself : (o : Object) → is_same_object o o ≡ true
same_itself (root t) = eq-eqb t.number t.number refl
same_itself (inside o n k v) = rw (same_itself o, eq-eqb n n refl, eq-eqb k k refl) refl

-- one object is at one place of trees with one number
pub same_number : (a b : Object) → is_same_object a b ≡ true → (tree_of a).number ≡ (tree_of b).number
same_number (root s) (root t) is = eqb-true s.number t.number is
same_number (root s) (inside o n k v) is = absurd (let no : ⊥ = cc in no)
same_number (inside o n k v) (root t) is = absurd (let no : ⊥ = cc in no)
same_number (inside a n i v) (inside b k j w) is = let parts = and_parts (is_same_object a b) ((n == k) && (i == j)) is in same_number a b parts.0

pub same_place : (a b : Object) → is_same_object a b ≡ true → place a ≡ place b
same_place (root s) (root t) is = refl
same_place (root s) (inside o n k v) is = absurd (let no : ⊥ = cc in no)
same_place (inside o n k v) (root t) is = absurd (let no : ⊥ = cc in no)
same_place (inside a n i v) (inside b k j w) is =
    let parts = and_parts (is_same_object a b) ((n == k) && (i == j)) is in
    let numbers = and_parts (n == k) (i == j) parts.1 in
    let scopes : n ≡ k = eqb-true n k numbers.0 in
    let offsets : i ≡ j = eqb-true i j numbers.1 in
    ap (λ (way : List (ℕ × ℕ)). way ++ (n, i) ∷ []) (same_place a b parts.0)
    ∙ ap (λ (s : ℕ). place b ++ (s, i) ∷ []) scopes
    ∙ ap (λ (s : ℕ). place b ++ (k, s) ∷ []) offsets

pub other_place : (a b : Object) → place a ≢ place b → is_same_object a b ≡ false
other_place a b apart = by_test (is_same_object a b) (λ held. absurd (apart (same_place a b held))) (λ failed. failed)

pub other_number : (a b : Object) → (tree_of a).number ≢ (tree_of b).number → is_same_object a b ≡ false
other_number a b apart = by_test (is_same_object a b) (λ held. absurd (apart (same_number a b held))) (λ failed. failed)
