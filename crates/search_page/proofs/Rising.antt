-- Rows that stand in order, and pages of them.
use Rattle.std.proofs.Common.{◌≡◌, ℕ, ◌<◌, ℤ, pos, Bool, true, false, List as Seq, [], ◌∷◌, filter, take, drop, None, refl, ap, ◌∙◌, arith}
use Rattle.std.specs.List.{AllByRecursion}
use Rattle.std.specs.Ordering.{int_cmp, is_lt, ordering_then}
use Rattle.std.specs.declared.cmp.Ordering.{Ordering}
use Rattle.std.specs.declared.cmp.Ordering.TheVariants.{Equal}
use Rattle.std.proofs.lemmas.Cmp.{int_cmp_total, tied_itself}
use Rattle.query_ast.specs.Compare.{in_order, placed}
use Rattle.query_ast.specs.Page.{comes_after, comes_before, directed, keys_cmp, page_of, place_cmp}
use Rattle.query_ast.specs.declared.sort.Direction.{Direction}
use Rattle.query_ast.specs.declared.sort.Key.{Key}
use Rattle.query_ast.specs.declared.sort.Key.TheVariants.{Number}

filter_whole : {A : Type 0} (p : A → Bool) (xs : Seq A) → ((x : A) → p x ≡ true) → filter p xs ≡ xs
filter_whole p [] all = refl
filter_whole {A} p (x ∷ xs) all = rw (all x) (ap (λ (l : Seq A). x ∷ l) (filter_whole p xs all))

-- a number compares equal to itself
level : (descending : Bool) (z : ℤ) → directed descending (Number z) (Number z) ≡ Equal
level true z = tied_itself int_cmp_total z
level false z = tied_itself int_cmp_total z

same_number : (d : Direction) (z : ℤ) → keys_cmp (d ∷ []) (Number z ∷ []) (Number z ∷ []) ≡ Equal
same_number d z = ap (λ (o : Ordering). ordering_then o Equal) (level d.descending z)

abbrev pub AreAlike : {A : Type 0} → (A → Seq Key) → ℤ → Seq A → Type 0
AreAlike {A} keys z rows = AllByRecursion (λ (x : A). keys x ≡ Number z ∷ []) rows

-- no row has a lesser number than one before it
abbrev pub Rise : {A : Type 0} → (A → ℤ) → Seq A → Type 0
Rise number [] = Unit {0}
Rise {A} number (x ∷ xs) = AllByRecursion (λ (y : A). is_lt (int_cmp (number y) (number x)) ≡ false) xs × Rise number xs

module _ {A : Type 0} (keys : A → Seq Key) (number : A → ℤ) (d : Direction) (z : ℤ) where
  not_before : (x y : A) → keys x ≡ Number z ∷ [] → keys y ≡ Number z ∷ [] → is_lt (int_cmp (number y) (number x)) ≡ false → comes_before keys number (d ∷ []) y x ≡ false
  not_before x y one other up =
      ap (λ (ks : Seq Key). is_lt (place_cmp (d ∷ []) (ks, number y) (keys x, number x))) other
      ∙ ap (λ (ks : Seq Key). is_lt (place_cmp (d ∷ []) (Number z ∷ [], number y) (ks, number x))) one
      ∙ ap (λ (o : Ordering). is_lt (ordering_then o (int_cmp (number y) (number x)))) (same_number d z)
      ∙ up

  in_order_kept : (rows : Seq A) → AreAlike keys z rows → Rise number rows → in_order (comes_before keys number (d ∷ [])) rows ≡ rows
  in_order_kept [] same up = refl
  in_order_kept (x ∷ []) same up = refl
  in_order_kept (x ∷ y ∷ rows) same up =
      let later : comes_before keys number (d ∷ []) y x ≡ false = not_before x y same.0 same.1.0 up.0.0 in
      ap (placed (comes_before keys number (d ∷ [])) x) (in_order_kept (y ∷ rows) same.1 up.1)
      ∙ rw later refl

  -- rows with one key stand in order by their numbers
  pub page_alike : (from size : ℕ) (rows : Seq A) → AreAlike keys z rows → Rise number rows → page_of keys number (d ∷ []) None from size rows ≡ take size (drop from rows)
  unfolding page_of
  page_alike from size rows same up =
      ap (λ (l : Seq A). take size (drop from l))
      (filter_whole (comes_after keys number (d ∷ []) None) (in_order (comes_before keys number (d ∷ [])) rows) (λ x. refl) ∙ in_order_kept rows same up)

-- the number of an earlier tree is the lesser
pub lower : (a b : ℕ) → a < b → is_lt (int_cmp (pos b) (pos a)) ≡ false
lower a b low = grind (arith)
