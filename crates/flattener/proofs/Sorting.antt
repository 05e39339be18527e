-- What a sort gives is the list in ascending order: of lists that have the same elements, one alone ascends.
use Rattle.std.proofs.Common.{◌≡◌, ℕ, ℤ, ◌<ℤ◌, suc, ◌+◌, ◌<◌, ◌≤◌, true, false, List, [], ◌∷◌, ◌++◌, length, map, cond, get_or, refl, sym, ap, ◌∙◌, arith, sum_by}
use Rattle.std.proofs.lemmas.List.Sums.{sum_by-append}
use Rattle.std.proofs.lemmas.Cmp.{upto, ranked, int_ranked, by_ranked, nat_cmp_total, int_cmp_total, nat_list_cmp_total, on_total, then_total}
use Rattle.std.proofs.lemmas.List.Sorted.{sum_by-IsPermutation, sorted_far, ranks_by, IsPermutation-map}
use Rattle.std.specs.Cmp.{IsTotalOrder}
use Rattle.std.specs.List.Sorted.{IsPermutation, IsSortedBy}
use Rattle.std.specs.Ordering.{is_gt, is_lt, ordering_reverse, ordering_then, nat_cmp, int_cmp}
use Rattle.std.specs.declared.cmp.Ordering.{Ordering}
use Rattle.std.specs.declared.cmp.Ordering.TheVariants.{Less, Equal, Greater}
use Rattle.flattener.specs.Flat.{placed, ascending, bytes_cmp, token_cmp}
use Rattle.mapping_body.proofs.Walks.{split}

-- a sum, element by element
abbrev total_by : {K : Type 0} → (K → ℕ) → List K → ℕ
total_by f [] = 0
total_by f (x ∷ xs) = f x + total_by f xs

total_is : {K : Type 0} (f : K → ℕ) (xs : List K) → sum_by f xs ≡ total_by f xs
total_is f [] = refl
total_is f (x ∷ xs) =
    let parts : sum_by f ((x ∷ []) ++ xs) ≡ sum_by f (x ∷ []) + sum_by f xs = sum_by-append f (x ∷ []) xs in
    let one : sum_by f (x ∷ []) ≡ 0 + f x = refl in
    let rest : sum_by f xs ≡ total_by f xs = total_is f xs in
    let whole : sum_by f (x ∷ xs) ≡ sum_by f (x ∷ []) + sum_by f xs = parts in
    omega (arith, one, rest, whole)

-- an order in which things that are tied are the same
pub record IsExactOrder {K : Type 0} (R : K → K → Ordering) : Type 0 where
  pub total : IsTotalOrder R
  pub exact : (x y : K) → R x y ≡ Equal → x ≡ y

turned : (a b : Ordering) → a ≡ ordering_reverse b → is_gt b ≡ true → is_gt a ≡ false
turned a Less e h = absurd (cc (h))
turned a Equal e h = absurd (cc (h))
turned a Greater e h = rw e refl

tied : (a b : Ordering) → a ≡ ordering_reverse b → is_gt a ≡ false → is_gt b ≡ false → a ≡ Equal
tied a Less e h k = (let g : is_gt Greater ≡ false = rw e at h in absurd (cc (g)))
tied a Equal e h k = e
tied a Greater e h k = absurd (cc (k))

not_less : (a b : Ordering) → a ≡ ordering_reverse b → is_lt b ≡ false → is_gt a ≡ false
not_less a Less e h = absurd (cc (h))
not_less a Equal e h = rw e refl
not_less a Greater e h = rw e refl

module _ {K : Type 0} (R : K → K → Ordering) (o : IsExactOrder R) where
  -- the element comes after none of the list
  abbrev Below : K → List K → Type 0
  Below x [] = Unit {0}
  Below x (y ∷ ys) = (is_gt (R x y) ≡ false) × Below x ys

  abbrev pub Up : List K → Type 0
  Up [] = Unit {0}
  Up (x ∷ xs) = Below x xs × Up xs

  below_further : (x y : K) (ys : List K) → is_gt (R x y) ≡ false → Below y ys → Below x ys
  below_further x y [] h b = tt
  below_further x y (z ∷ zs) h b = (upto o.total x y z h b.0, below_further x y zs h b.1)

  below_placed : (x new : K) (xs : List K) → is_gt (R x new) ≡ false → Below x xs → Below x (placed R new xs)
  below_placed x new [] h b = (h, tt)
  below_placed x new (y ∷ ys) h b =
      split (is_gt (R new y))
      (λ after. rw after (b.0, below_placed x new ys h b.1))
      (λ before. rw before (h, b))

  up_placed : (new : K) (xs : List K) → Up xs → Up (placed R new xs)
  up_placed new [] up = (tt, tt)
  up_placed new (y ∷ ys) up =
      split (is_gt (R new y))
      (λ after. rw after (below_placed y new ys (turned (R y new) (R new y) (o.total.antisymm y new) after) up.0, up_placed new ys up.1))
      (λ before. rw before ((before, below_further new y ys before up.0), up))

  up_ascending : (xs : List K) → Up (ascending R xs)
  up_ascending [] = tt
  up_ascending (x ∷ xs) = up_placed x (ascending R xs) (up_ascending xs)

  sum_placed : (f : K → ℕ) (new : K) (xs : List K) → total_by f (placed R new xs) ≡ f new + total_by f xs
  sum_placed f new [] = refl
  sum_placed f new (y ∷ ys) =
      split (is_gt (R new y))
      (λ after. rw after (let e = sum_placed f new ys in omega (arith, e)))
      (λ before. rw before refl)

  sum_ascending : (f : K → ℕ) (xs : List K) → total_by f (ascending R xs) ≡ total_by f xs
  sum_ascending f [] = refl
  sum_ascending f (x ∷ xs) = sum_placed f x (ascending R xs) ∙ ap (λ n. f x + n) (sum_ascending f xs)

  -- counts what comes before an element
  abbrev earlier : K → K → ℕ
  earlier x y = cond (is_gt (R x y)) 1 0

  none_earlier : (x : K) (ys : List K) → Below x ys → total_by (earlier x) ys ≡ 0
  none_earlier x [] b = refl
  none_earlier x (y ∷ ys) b = rw (b.0, none_earlier x ys b.1) refl

  itself : (x : K) → is_gt (R x x) ≡ false
  itself x =
      split (is_gt (R x x))
      (λ after. turned (R x x) (R x x) (o.total.antisymm x x) after)
      (λ before. before)

  none_first : (x y : K) (ys : List K) → total_by (earlier x) (y ∷ ys) ≡ 0 → is_gt (R x y) ≡ false
  none_first x y ys h =
      split (is_gt (R x y))
      (λ after. absurd (let e : 1 + total_by (earlier x) ys ≡ 0 = rw after at h in omega (arith, e)))
      (λ before. before)

  first_below : (x y : K) (xs ys : List K) → Up (x ∷ xs) → ((f : K → ℕ) → total_by f (x ∷ xs) ≡ total_by f (y ∷ ys)) → is_gt (R x y) ≡ false
  first_below x y xs ys up same =
      none_first x y ys (sym (same (earlier x)) ∙ none_earlier x (x ∷ xs) (itself x, up.0))

  one_ascends : (xs ys : List K) → Up xs → Up ys → ((f : K → ℕ) → total_by f xs ≡ total_by f ys) → xs ≡ ys
  one_ascends [] [] up down same = refl
  one_ascends [] (y ∷ ys) up down same = absurd (let e : 0 ≡ 1 + total_by (λ _. 1) ys = same (λ _. 1) in omega (arith, e))
  one_ascends (x ∷ xs) [] up down same = absurd (let e : 1 + total_by (λ _. 1) xs ≡ 0 = same (λ _. 1) in omega (arith, e))
  one_ascends (x ∷ xs) (y ∷ ys) up down same =
      let first : x ≡ y = o.exact x y (tied (R x y) (R y x) (o.total.antisymm x y) (first_below x y xs ys up same) (first_below y x ys xs down (λ f. sym (same f)))) in
      let rest : (f : K → ℕ) → total_by f xs ≡ total_by f ys = λ f. (let e : f x + total_by f xs ≡ f y + total_by f ys = same f in let h : f x ≡ f y = ap f first in omega (arith, e, h)) in
      rw (first, one_ascends xs ys up.1 down.1 rest) refl

  module _ {X : Type 0} (key : X → K) where
    below_from : (x : X) (ys : List X) → ((j : ℕ) (d : X) → j < length ys → is_gt (R (key x) (key (get_or ys j d))) ≡ false) → Below (key x) (map key ys)
    below_from x [] each = tt
    below_from x (y ∷ ys) each = (each 0 y (omega arith), below_from x ys (λ j d h. each (suc j) d (omega (arith, h))))

    up_from : (xs : List X) → ((i j : ℕ) (d : X) → i ≤ j → j < length xs → is_gt (R (key (get_or xs i d)) (key (get_or xs j d))) ≡ false) → Up (map key xs)
    up_from [] each = tt
    up_from (x ∷ xs) each = (
      below_from x xs (λ j d h. each 0 (suc j) d (omega arith) (omega (arith, h))),
      up_from xs (λ i j d h k. each (suc i) (suc j) d (omega (arith, h)) (omega (arith, k))),
    )

    -- what a sort by keys gives, key by key
    pub sorted_is : (xs ys : List X) → IsPermutation xs ys → IsSortedBy (λ x y. is_lt (R (key x) (key y))) ys → map key ys ≡ ascending R (map key xs)
    sorted_is xs ys moved up =
        one_ascends (map key ys) (ascending R (map key xs))
        (up_from ys (λ i j d h k. not_less (R (key (get_or ys i d)) (key (get_or ys j d))) (R (key (get_or ys j d)) (key (get_or ys i d))) (o.total.antisymm (key (get_or ys i d)) (key (get_or ys j d)))
        (sorted_far (λ x y. is_lt (R (key x) (key y))) (ranks_by o.total key) ys up i j d h k)))
        (up_ascending (map key xs))
        (λ f. sym (total_is f (map key ys)) ∙ sum_by-IsPermutation f (map key xs) (map key ys) (IsPermutation-map key xs ys moved) ∙ total_is f (map key xs) ∙ sym (sum_ascending f (map key xs)))

-- ---- the orders of numbers, of bytes and of tokens

int_exact : (x y : ℤ) → int_cmp x y ≡ Equal → x ≡ y
int_exact x y h = by_ranked (x <ℤ y) (x ≡ y) (y <ℤ x) (int_cmp x y) (int_ranked x y (int_cmp x y) refl) (λ less _. absurd (cc (h, less))) (λ _ same. same) (λ more _. absurd (cc (h, more)))

nat_exact : (x y : ℕ) → nat_cmp x y ≡ Equal → x ≡ y
nat_exact x y h = by_ranked (x < y) (x ≡ y) (y < x) (nat_cmp x y) (ranked x y (nat_cmp x y) refl) (λ less _. absurd (cc (h, less))) (λ _ same. same) (λ more _. absurd (cc (h, more)))

then_equal : (a b : Ordering) → ordering_then a b ≡ Equal → (a ≡ Equal) × (b ≡ Equal)
then_equal Less b h = absurd (cc (h))
then_equal Equal b h = (refl, h)
then_equal Greater b h = absurd (cc (h))

bytes_exact : (x y : List ℕ) → bytes_cmp x y ≡ Equal → x ≡ y
bytes_exact [] [] h = refl
bytes_exact [] (y ∷ ys) h = absurd (cc (h))
bytes_exact (x ∷ xs) [] h = absurd (cc (h))
bytes_exact (x ∷ xs) (y ∷ ys) h =
    let both = then_equal (nat_cmp x y) (bytes_cmp xs ys) h in
    rw (nat_exact x y both.0, bytes_exact xs ys both.1) refl

pair_same : (x y : List ℕ × ℕ) → x.0 ≡ y.0 → x.1 ≡ y.1 → x ≡ y
pair_same (a, b) (c, d) e f = rw (e, f) refl

token_exact : (x y : List ℕ × ℕ) → token_cmp x y ≡ Equal → x ≡ y
token_exact x y h =
    let both = then_equal (bytes_cmp x.0 y.0) (nat_cmp x.1 y.1) h in
    pair_same x y (bytes_exact x.0 y.0 both.0) (nat_exact x.1 y.1 both.1)

pub int_order : IsExactOrder int_cmp
int_order = record { total = int_cmp_total; exact = int_exact }

pub bytes_order : IsExactOrder bytes_cmp
bytes_order = record { total = nat_list_cmp_total; exact = bytes_exact }

pub token_order : IsExactOrder token_cmp
token_order = record { total = then_total (on_total (λ (t : List ℕ × ℕ). t.0) nat_list_cmp_total) (on_total (λ (t : List ℕ × ℕ). t.1) nat_cmp_total); exact = token_exact }

map_same : {A : Type 0} (xs : List A) → map (λ x. x) xs ≡ xs
map_same [] = refl
map_same (x ∷ xs) = rw (map_same xs) refl

pub numbers_sorted : (xs ys : List ℤ) → IsPermutation xs ys → IsSortedBy (λ x y. is_lt (int_cmp x y)) ys → ys ≡ ascending int_cmp xs
numbers_sorted xs ys moved up = sym (map_same ys) ∙ sorted_is int_cmp int_order (λ x. x) xs ys moved up ∙ ap (ascending int_cmp) (map_same xs)
