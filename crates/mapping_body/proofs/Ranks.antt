-- Names compared, and the search for one among names that ascend.
use Rattle.std.proofs.Common.{◌≡◌, ℕ, zero, suc, ◌+◌, ◌-◌, ◌<◌, ◌≤◌, inl, inr, List, [], ◌∷◌, ◌++◌, map, length, take, drop, get_or, refl, sym, ap, ◌∙◌, subst, arith, true, false, ◌&&◌, ◌==◌, Option, Some, None, Ordering, Less, Equal, Greater, nat_cmp, is_eq, bytes_eq, Result, Ok, Err}
use Rattle.std.proofs.lemmas.Bool.{cases_lt}
use Rattle.std.proofs.lemmas.Cmp.{nat_list_cmp_total}
use Rattle.std.proofs.lemmas.Map.Text.{is_eq-slice_cmp}
use Rattle.std.proofs.lemmas.Slice.Eq.{bytes_eq-Decides}
use Rattle.std.specs.Cmp.Lexicographic.{slice_cmp}
use Rattle.std.specs.List.{AllByRecursion, position_from}
use Rattle.std.specs.List.Sorted.{IsBinarySearchResult, IsNonDecreasingBy, IsPartitionPoint, IsSearchInRange, IsStrictlySortedBy}
use Rattle.std.specs.Result.{result_ok}
use Rattle.std.specs.Ordering.{ordering_index, ordering_reverse}
use Rattle.mapping_body.specs.Names.{AreAscending, goes_on, place_of, put}

abbrev pub compared : List ℕ → List ℕ → Ordering
compared = slice_cmp nat_cmp

-- each name comes after k
abbrev pub AllAfter : List ℕ → List (List ℕ) → Type 0
AllAfter k names = AllByRecursion (λ y. compared k y ≡ Less) names

-- the three answers of a comparison
pub by_ordering : {G : Type 0} (o : Ordering) → (o ≡ Less → G) → (o ≡ Equal → G) → (o ≡ Greater → G) → G
by_ordering Less less equal greater = less refl
by_ordering Equal less equal greater = equal refl
by_ordering Greater less equal greater = greater refl

pub is_eq_from : (k n : List ℕ) (o : Ordering) → compared k n ≡ o → bytes_eq k n ≡ is_eq o
is_eq_from k n o h = sym (is_eq-slice_cmp k n) ∙ ap is_eq h

pub reversed : (x y : List ℕ) (o : Ordering) → compared x y ≡ o → compared y x ≡ ordering_reverse o
reversed x y o h = nat_list_cmp_total.antisymm y x ∙ ap ordering_reverse h

pub same_name : (x y : List ℕ) → compared x y ≡ Equal → x ≡ y
same_name x y e = (bytes_eq-Decides x y).0 (is_eq_from x y Equal e)

-- ---- names that ascend stand to a name first as less, then as equal, then as greater

index_rises : (a b n : List ℕ) → compared a b ≡ Less → ordering_index (compared a n) ≤ ordering_index (compared b n)
index_rises a b n less =
    by_ordering (compared b n)
    (λ near. rw (nat_list_cmp_total.trans a b n less near, near) (omega arith))
    (λ equal. let far : compared a n ≡ Less = subst (λ (k : List ℕ). compared a k ≡ Less) (same_name b n equal) less in rw (far, equal) (omega arith))
    (λ beyond. by_ordering (compared a n)
    (λ e. rw (e, beyond) (omega arith))
    (λ e. rw (e, beyond) (omega arith))
    (λ e. rw (e, beyond) (omega arith)))

module _ {T : Type 0} (name : T → List ℕ) (n : List ℕ) where
  item_after : (k : List ℕ) (items : List T) (i : ℕ) (d : T) → AllAfter k (map name items) → i < length items → compared k (name (get_or items i d)) ≡ Less
  item_after k [] i d all h = absurd (omega arith)
  item_after k (x ∷ items) zero d all h = all.0
  item_after k (x ∷ items) (suc i) d all h = item_after k items i d all.1 (omega arith)

  pub rises : (items : List T) → AreAscending (map name items) → IsNonDecreasingBy (λ y. ordering_index (compared (name y) n)) items
  unfolding IsStrictlySortedBy
  rises [] up i j d h less = absurd (omega arith)
  rises (x ∷ items) up zero zero d h less = omega arith
  rises (x ∷ items) up zero (suc j) d h less = index_rises (name x) (name (get_or items j d)) n (item_after (name x) items j d up.0 (omega arith))
  rises (x ∷ items) up (suc i) zero d h less = absurd (omega arith)
  rises (x ∷ items) up (suc i) (suc j) d h less = rises items up.1 i j d (omega arith) (omega arith)

  -- ---- where the search comes to

  abbrev IsHere : List T → ℕ → Type 0
  IsHere items i = (d : T) → compared (name (get_or items i d)) n ≡ Equal

  abbrev pub IsBetween : List T → ℕ → Type 0
  IsBetween items i = IsPartitionPoint (λ y. compared (name y) n ≡ Less) (λ y. compared (name y) n ≡ Greater) items i

  before : (y : T) (items : List T) (i : ℕ) → AreAscending (map name (y ∷ items)) → i < length items → IsHere items i → compared (name y) n ≡ Less
  unfolding IsStrictlySortedBy
  before y items i up h here = subst (λ (k : List ℕ). compared (name y) k ≡ Less) (same_name (name (get_or items i y)) n (here y)) (item_after (name y) items i y up.0 h)

  found_from : (items : List T) (at i : ℕ) → AreAscending (map name items) → i < length items → IsHere items i → position_from (λ other. bytes_eq other n) at (map name items) ≡ Some (at + i)
  unfolding IsStrictlySortedBy
  found_from [] at i up h here = absurd (omega arith)
  found_from (y ∷ items) at zero up h here = rw (is_eq_from (name y) n Equal (here y)) (ap Some (omega arith))
  found_from (y ∷ items) at (suc i) up h here =
      let less = before y items i up (omega arith) here in
      let step : at + 1 + i ≡ at + suc i = omega arith in
      rw (is_eq_from (name y) n Less less) (found_from items (at + 1) i up.1 (omega arith) here ∙ ap Some step)

  pub found : (items : List T) (i : ℕ) → AreAscending (map name items) → i < length items → IsHere items i → place_of n (map name items) ≡ Some i
  found items i up h here = let start : 0 + i ≡ i = omega arith in found_from items 0 i up h here ∙ ap Some start

  absent_from : (items : List T) (at i : ℕ) → IsBetween items i → position_from (λ other. bytes_eq other n) at (map name items) ≡ None
  absent_from [] at i point = refl
  absent_from (y ∷ items) at zero point =
      rw (is_eq_from (name y) n Greater (point.1 0 y (omega arith) (omega arith)))
      (absent_from items (at + 1) 0 ((λ k d h less. absurd (omega arith)), (λ k d h less. point.1 (suc k) d (omega arith) (omega arith))))
  absent_from (y ∷ items) at (suc i) point =
      rw (is_eq_from (name y) n Less (point.0 0 y (omega arith) (omega arith)))
      (absent_from items (at + 1) i ((λ k d h less. point.0 (suc k) d (omega arith) (omega arith)), (λ k d h less. point.1 (suc k) d (omega arith) (omega arith))))

  pub absent : (items : List T) (i : ℕ) → IsBetween items i → place_of n (map name items) ≡ None
  absent items i point = absent_from items 0 i point

-- the answer of a binary search
pub place_by : {T : Type 0} (name : T → List ℕ) (n : List ℕ) (items : List T) (r : Result ℕ ℕ) → AreAscending (map name items) → IsSearchInRange r (length items)
    → IsBinarySearchResult (λ y. compared (name y) n) items r → result_ok r ≡ place_of n (map name items)
place_by name n items (Ok i) up within is = sym (found name n items i up within is)
place_by name n items (Err i) up within is = sym (absent name n items i (is (rises name n items up)))

-- ---- what is put in stands there, or is there already

pub put_there : {T : Type 0} (name : T → List ℕ) (x : T) (items : List T) (i : ℕ) → AreAscending (map name items) → i < length items → ((d : T) → compared (name (get_or items i d)) (name x) ≡ Equal) → put name x items ≡ items
unfolding IsStrictlySortedBy
put_there name x [] i up h here = absurd (omega arith)
put_there name x (y ∷ items) zero up h here = rw (here y) refl
put_there {T} name x (y ∷ items) (suc i) up h here =
    let less : compared (name y) (name x) ≡ Less = subst (λ (k : List ℕ). compared (name y) k ≡ Less) (same_name (name (get_or items i y)) (name x) (here y)) (item_after name (name x) (name y) items i y up.0 (omega arith)) in
    rw less (ap (λ (ys : List T). y ∷ ys) (put_there name x items i up.1 (omega arith) here))

pub put_between : {T : Type 0} (name : T → List ℕ) (x : T) (items : List T) (i : ℕ) → IsPartitionPoint (λ y. compared (name y) (name x) ≡ Less) (λ y. compared (name y) (name x) ≡ Greater) items i → i ≤ length items
    → put name x items ≡ take i items ++ x ∷ drop i items
put_between name x [] zero point h = refl
put_between name x [] (suc i) point h = absurd (omega arith)
put_between name x (y ∷ items) zero point h = rw (point.1 0 y (omega arith) (omega arith)) refl
put_between {T} name x (y ∷ items) (suc i) point h =
    rw (point.0 0 y (omega arith) (omega arith))
    (ap (λ (ys : List T). y ∷ ys) (put_between name x items i ((λ k d a less. point.0 (suc k) d (omega arith) (omega arith)), (λ k d a less. point.1 (suc k) d (omega arith) (omega arith))) (omega arith)))

-- ---- a path that is too short doesn't go on
pub goes_on_short : (above path : List ℕ) → length path ≤ length above → goes_on above path ≡ false
goes_on_short [] [] h = refl
goes_on_short [] (b ∷ path) h = absurd (omega arith)
goes_on_short (a ∷ above) [] h = refl
goes_on_short (a ∷ above) (b ∷ path) h = let e : goes_on above path ≡ false = goes_on_short above path (omega arith) in rw e (elim (a == b) as (λ t. (t && false) ≡ false) [ true ↦ refl | false ↦ refl ])

pub ruleset paths = (goes_on_short)
