-- Entries of a key through a stable sort by a number of the key, or by the key.
use Rattle.std.proofs.Common.{◌≡◌, ℕ, suc, ◌+◌, ◌≤◌, length, get_or, Bool, true, false, not, ◌&&◌, ◌||◌, List, [], ◌∷◌, map, refl, sym, ap, ◌∙◌, arith}
use Rattle.std.specs.Cmp.{IsStrictWeakOrder}
use Rattle.std.specs.List.{AllByRecursion, filter, list_any}
use Rattle.std.specs.List.Sorted.{IsPermutation, IsSortedBy, IsStableBy, IsStableByKey, ties}
use Rattle.std.specs.Ordering.{eq_by_cmp, is_eq, is_gt, is_lt, nat_cmp}
use Rattle.std.specs.declared.cmp.Ordering.{Ordering}
use Rattle.std.specs.declared.cmp.Ordering.TheVariants.{Less, Equal, Greater}
use Rattle.std.proofs.lemmas.List.{get_or_past}
use Rattle.std.proofs.lemmas.List.Elements.{recursion_from_All}
use Rattle.std.proofs.lemmas.List.Sorted.{list_any-IsPermutation, sorted_far}
use Rattle.segment_builder.specs.Groups.{of_key, AreRising}
use Rattle.segment_builder.proofs.InOrder.{gt_is}
use Rattle.segment_builder.proofs.Keys.{filter_same, split}
use Rattle.segment_builder.proofs.Keys.{tied as ties_are}
use Rattle.segment_builder.proofs.Merged.{IsExact}
use Rattle.segment_builder.proofs.Sorted.{same_field}

pub equal_from : (x : Ordering) → is_eq x ≡ true → x ≡ Equal
equal_from Less is = absurd (cc (is))
equal_from Equal is = refl
equal_from Greater is = absurd (cc (is))

filter_in : {X : Type 0} (p q : X → Bool) → ((x : X) → p x ≡ true → q x ≡ true) → (xs : List X) → filter p (filter q xs) ≡ filter p xs
filter_in p q goes [] = refl
filter_in p q goes (x ∷ xs) =
    split (q x)
    (λ yes. rw yes
    (split (p x)
    (λ is. rw (is, filter_in p q goes xs) refl)
    (λ isnt. rw (isnt, filter_in p q goes xs) refl)))
    (λ no.
    let out : p x ≡ false = split (p x) (λ is. absurd (let never : true ≡ false = sym (goes x is) ∙ no in cc (never))) (λ isnt. isnt) in
    rw (no, out) (filter_in p q goes xs))

tied : (m n : ℕ) → m ≡ n → (not (is_lt (nat_cmp m n)) && not (is_lt (nat_cmp n m))) ≡ true
tied m n same = rw (same, same_field n) refl

-- behind the end there are no bytes
pub byte_past : (bytes : List ℕ) (at : ℕ) → length bytes ≤ at → get_or bytes at 0 ≡ 0
byte_past bytes at past = get_or_past bytes at 0 past

module _ {X K P : Type 0} (cmp : K → K → Ordering) (o : IsExact cmp) (get : X → K × P) (number : K → ℕ) where
  abbrev is_at : K → X → Bool
  is_at key x = eq_by_cmp cmp key (get x).0

  from_filter : (key : K) (xs : List X) → of_key cmp key (map get xs) ≡ map (λ (x : X). (get x).1) (filter (is_at key) xs)
  from_filter key [] = refl
  from_filter key (x ∷ xs) =
      split (eq_by_cmp cmp key (get x).0)
      (λ is. rw (is, from_filter key xs) refl)
      (λ isnt. rw (isnt, from_filter key xs) refl)

  none_at : (key : K) (xs : List X) → list_any (is_at key) xs ≡ false → of_key cmp key (map get xs) ≡ []
  none_at key [] none = refl
  none_at key (x ∷ xs) none =
      split (eq_by_cmp cmp key (get x).0)
      (λ is. (let same : (true || list_any (is_at key) xs) ≡ false = rw is at none in absurd (cc (same))))
      (λ other. rw other (none_at key xs (rw other at none)))

  found_at : (key : K) (xs : List X) → list_any (is_at key) xs ≡ true → (x : X) × (eq_by_cmp cmp key (get x).0 ≡ true)
  found_at key [] some = absurd (cc (some))
  found_at key (x ∷ xs) some =
      split (eq_by_cmp cmp key (get x).0)
      (λ is. (x, is))
      (λ isnt. found_at key xs (rw isnt at some))

  pub kept_at : (xs ys : List X) → IsPermutation xs ys → IsStableByKey (λ (x : X). number (get x).0) nat_cmp xs ys → (key : K) → of_key cmp key (map get ys) ≡ of_key cmp key (map get xs)
  kept_at xs ys moved stable key =
      split (list_any (is_at key) xs)
      (λ some.
      let x = found_at key xs some in
      let own : key ≡ (get x.0).0 = o.same key (get x.0).0 (equal_from (cmp key (get x.0).0) x.1) in
      let goes : (y : X) → is_at key y ≡ true → ties (λ a b. is_lt (nat_cmp (number (get a).0) (number (get b).0))) x.0 y ≡ true =
      λ y is. tied (number (get x.0).0) (number (get y).0) (ap number (sym own ∙ o.same key (get y).0 (equal_from (cmp key (get y).0) is))) in
      from_filter key ys
      ∙ ap (map (λ (z : X). (get z).1))
      (sym (filter_in (is_at key) (ties (λ a b. is_lt (nat_cmp (number (get a).0) (number (get b).0))) x.0) goes ys)
      ∙ ap (filter (is_at key)) (stable x.0)
      ∙ filter_in (is_at key) (ties (λ a b. is_lt (nat_cmp (number (get a).0) (number (get b).0))) x.0) goes xs)
      ∙ sym (from_filter key xs))
      (λ none. none_at key ys (sym (list_any-IsPermutation (is_at key) xs ys moved) ∙ none) ∙ sym (none_at key xs none))

  -- through a stable sort by the keys
  pub kept_by : (xs ys : List X) → IsPermutation xs ys → IsStableBy (λ a b. is_lt (cmp (get a).0 (get b).0)) xs ys → (key : K) → of_key cmp key (map get ys) ≡ of_key cmp key (map get xs)
  kept_by xs ys moved stable key =
      split (list_any (is_at key) xs)
      (λ some.
      let x = found_at key xs some in
      let own : key ≡ (get x.0).0 = o.same key (get x.0).0 (equal_from (cmp key (get x.0).0) x.1) in
      let same : (y : X) → ties (λ a b. is_lt (cmp (get a).0 (get b).0)) x.0 y ≡ is_at key y =
      λ y. ties_are (cmp (get x.0).0 (get y).0) (cmp (get y).0 (get x.0).0) (o.total.antisymm (get y).0 (get x.0).0) ∙ ap (λ k. eq_by_cmp cmp k (get y).0) (sym own) in
      from_filter key ys
      ∙ ap (map (λ (z : X). (get z).1)) (sym (filter_same _ (is_at key) same ys) ∙ stable x.0 ∙ filter_same _ (is_at key) same xs)
      ∙ sym (from_filter key xs))
      (λ none. none_at key ys (sym (list_any-IsPermutation (is_at key) xs ys moved) ∙ none) ∙ sym (none_at key xs none))

  each_got : (Q : K × P → Type 0) (xs : List X) → AllByRecursion (λ (x : X). Q (get x)) xs → AllByRecursion Q (map get xs)
  each_got Q [] all = tt
  each_got Q (x ∷ xs) all = (all.0, each_got Q xs all.1)

  -- keys that are sorted rise
  pub risen_by : IsStrictWeakOrder (λ (a b : X). is_lt (cmp (get a).0 (get b).0)) → (xs : List X) → IsSortedBy (λ a b. is_lt (cmp (get a).0 (get b).0)) xs → AreRising cmp (map get xs)
  risen_by weak [] up = tt
  risen_by weak (x ∷ xs) up = (
    each_got (λ later. is_gt (cmp (get x).0 later.0) ≡ false) xs
        (recursion_from_All (λ (later : X). is_gt (cmp (get x).0 (get later).0) ≡ false) xs
        (λ k d h.
        let far : is_lt (cmp (get (get_or xs k d)).0 (get x).0) ≡ false = sorted_far (λ a b. is_lt (cmp (get a).0 (get b).0)) weak (x ∷ xs) up 0 (suc k) d (omega arith) (omega (arith, h)) in
        sym (gt_is (cmp (get x).0 (get (get_or xs k d)).0) (cmp (get (get_or xs k d)).0 (get x).0) (o.total.antisymm (get (get_or xs k d)).0 (get x).0)) ∙ far)),
    risen_by weak xs (λ k d low high.
        let next : suc k + 1 ≡ suc (k + 1) = omega arith in
        rw next at (up (suc k) d (omega arith) (omega (arith, high)))),
  )
