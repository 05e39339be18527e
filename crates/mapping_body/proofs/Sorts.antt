-- What a stable sort by names and the taking out of repeated names leave of a list: the list in byte order.
use Rattle.std.proofs.Common.{◌≡◌, ℕ, List, [], ◌∷◌, map, filter, not, ◌&&◌, refl, sym, ap, ◌∙◌, subst, Bool, true, false, cond, Option, Some, None, Ordering, Less, Equal, Greater, is_eq, bytes_eq}
use Rattle.std.proofs.lemmas.Cmp.{nat_list_cmp_total}
use Rattle.std.proofs.lemmas.Slice.Eq.{bytes_eq-Decides}
use Rattle.std.specs.Cmp.{IsTotalOrder, IsStrictWeakOrder}
use Rattle.std.specs.List.{find, dedup, dedup_from, AllByRecursion}
use Rattle.std.specs.List.Sorted.{IsSorted, IsStableBy, IsStrictlySortedBy, ties}
use Rattle.std.specs.Ordering.{is_lt, eq_by_cmp}
use Rattle.std.proofs.lemmas.List.Kept.{IsStrictlySortedBy-dedup}
use Rattle.mapping_body.specs.Names.{AreAscending, in_byte_order}
use Rattle.mapping_body.proofs.Firsts.{first, first-put_all, same_by_firsts}
use Rattle.mapping_body.proofs.Puts.{AreAscending-in_byte_order, ascending_none}
use Rattle.mapping_body.proofs.Ranks.{by_ordering, is_eq_from, reversed, compared}
use Rattle.mapping_body.proofs.Walks.{split}

module _ {T : Type 0} (name : T → List ℕ) where
  abbrev pub by_name : T → T → Ordering
  by_name x y = compared (name x) (name y)

  abbrev pub same_names : T → T → Bool
  same_names x y = bytes_eq (name x) (name y)

  pub by_name_total : IsTotalOrder by_name
  by_name_total = record {
    antisymm = λ x y. nat_list_cmp_total.antisymm (name x) (name y);
    trans = λ x y z. nat_list_cmp_total.trans (name x) (name y) (name z);
    congr = λ x y z. nat_list_cmp_total.congr (name x) (name y) (name z);
  }

  -- ---- the sort keeps the first of each name

  alike : (p q : T → Bool) → ((x : T) → p x ≡ q x) → (xs : List T) → filter p xs ≡ filter q xs
  alike p q same [] = refl
  alike p q same (x ∷ xs) = rw (same x, alike p q same xs) refl

  found_filtered : (p : T → Bool) (xs : List T) → find p xs ≡ find p (filter p xs)
  found_filtered p [] = refl
  found_filtered p (x ∷ xs) =
      split (p x)
      (λ held. rw (held, held) refl)
      (λ failed. rw failed (found_filtered p xs))

  found_passes : (p : T → Bool) (xs : List T) (x : T) → find p xs ≡ Some x → p x ≡ true
  found_passes p [] x e = cc
  found_passes p (y ∷ xs) x e =
      split (p y)
      (λ held. let one : Some y ≡ Some x = rw held at e in let is : y ≡ x = cc in subst (λ (z : T). p z ≡ true) is held)
      (λ failed. found_passes p xs x (rw failed at e))

  tie_is : (x y : T) → ties (λ a b. is_lt (by_name a b)) x y ≡ bytes_eq (name y) (name x)
  tie_is x y =
      by_ordering (compared (name x) (name y))
      (λ less. rw (less, is_eq_from (name y) (name x) Greater (reversed (name x) (name y) Less less)) refl)
      (λ equal. let back = reversed (name x) (name y) Equal equal in rw (equal, back, is_eq_from (name y) (name x) Equal back) refl)
      (λ greater. let back = reversed (name x) (name y) Greater greater in rw (greater, back, is_eq_from (name y) (name x) Less back) refl)

  first_by : (xs ys : List T) (n : List ℕ) (x : T) → IsStableBy (λ a b. is_lt (by_name a b)) xs ys → bytes_eq (name x) n ≡ true → first name n ys ≡ first name n xs
  first_by xs ys n x stable met =
      let is : name x ≡ n = (bytes_eq-Decides (name x) n).0 met in
      let test : T → Bool = λ y. bytes_eq (name y) n in
      let same : (y : T) → test y ≡ ties (λ a b. is_lt (by_name a b)) x y = λ y. ap (bytes_eq (name y)) (sym is) ∙ sym (tie_is x y) in
      found_filtered test ys
      ∙ ap (find test) (alike test (ties (λ a b. is_lt (by_name a b)) x) same ys ∙ stable x ∙ sym (alike test (ties (λ a b. is_lt (by_name a b)) x) same xs))
      ∙ sym (found_filtered test xs)

  by_found : (xs ys : List T) (n : List ℕ) (o u : Option T) → IsStableBy (λ a b. is_lt (by_name a b)) xs ys → first name n xs ≡ o → first name n ys ≡ u → first name n ys ≡ first name n xs
  by_found xs ys n (Some x) u stable e f = first_by xs ys n x stable (found_passes (λ y. bytes_eq (name y) n) xs x e)
  by_found xs ys n None (Some y) stable e f = first_by xs ys n y stable (found_passes (λ z. bytes_eq (name z) n) ys y f)
  by_found xs ys n None None stable e f = f ∙ sym e

  first_sorted : (xs ys : List T) (n : List ℕ) → IsStableBy (λ a b. is_lt (by_name a b)) xs ys → first name n ys ≡ first name n xs
  first_sorted xs ys n stable = by_found xs ys n (first name n xs) (first name n ys) stable refl refl

  -- ---- and so does the taking out of repeated names

  first_apart : (n : List ℕ) (k : T) (xs : List T) → first name n (dedup_from same_names k xs) ≡ first name n (k ∷ xs)
  first_apart n k [] = refl
  first_apart n k (x ∷ xs) =
      split (same_names x k)
      (λ met.
      let one : name x ≡ name k = (bytes_eq-Decides (name x) (name k)).0 met in
      rw met (first_apart n k xs ∙ split (bytes_eq (name k) n)
      (λ held. rw held refl)
      (λ failed. rw (failed, subst (λ (m : List ℕ). bytes_eq m n ≡ false) (sym one) failed) refl)))
      (λ other. rw other (ap (λ (rest : Option T). cond (bytes_eq (name k) n) (Some k) rest) (first_apart n x xs)))

  first_once : (n : List ℕ) (xs : List T) → first name n (dedup same_names xs) ≡ first name n xs
  first_once n [] = refl
  first_once n (x ∷ xs) = first_apart n x xs

  all_named : (x : T) (xs : List T) → AllByRecursion (λ y. by_name x y ≡ Less) xs → AllByRecursion (λ k. compared (name x) k ≡ Less) (map name xs)
  all_named x [] all = tt
  all_named x (y ∷ xs) all = (all.0, all_named x xs all.1)

  ascend_named : (xs : List T) → IsStrictlySortedBy by_name xs → AreAscending (map name xs)
  unfolding IsStrictlySortedBy
  ascend_named [] up = up
  ascend_named (x ∷ xs) up = (all_named x xs up.0, ascend_named xs up.1)

  tied : (x y : T) → same_names x y ≡ eq_by_cmp by_name x y
  tied x y = is_eq_from (name x) (name y) (compared (name x) (name y)) refl

  pub once_ascends : (ys : List T) → IsSorted by_name ys → AreAscending (map name (dedup same_names ys))
  once_ascends ys sorted = ascend_named (dedup same_names ys) (IsStrictlySortedBy-dedup by_name_total tied ys sorted)

  -- the list in byte order
  pub sorted_once : (xs ys : List T) → IsSorted by_name ys → IsStableBy (λ a b. is_lt (by_name a b)) xs ys → dedup same_names ys ≡ in_byte_order name xs
  sorted_once xs ys sorted stable =
      same_by_firsts name (dedup same_names ys) (in_byte_order name xs) (once_ascends ys sorted) (AreAscending-in_byte_order name xs)
      (λ n. first_once n ys ∙ first_sorted xs ys n stable ∙ sym (first-put_all name n [] xs (ascending_none name [] refl)))
