-- Numbers in byte order of names: each is there once, and a name is found by them.
use Rattle.std.proofs.Common.{◌≡◌, ℕ, zero, suc, ◌+◌, ◌-◌, ◌<◌, ◌≤◌, List, [], ◌∷◌, ◌++◌, map, length, get_or, append-nil, refl, sym, ap, ◌∙◌, subst, arith, true, false, Option, Some, None, option_map, Ordering, Less, Equal, Greater, bytes_eq}
use Rattle.std.proofs.lemmas.Slice.Eq.{bytes_eq-Decides}
use Rattle.std.specs.List.{AllByRecursion, All, Contains, position_from, range_with_len}
use Rattle.std.specs.List.Sorted.{IsPermutation}
use Rattle.std.proofs.lemmas.List.Sorted.{IsPermutation-refl, IsPermutation-cons, IsPermutation-trans, IsPermutation-sym, IsPermutation-insert, Contains-permutation, All-permutation, IsPermutation-append_left}
use Rattle.std.proofs.lemmas.List.{length-map, get_or-map}
use Rattle.std.proofs.lemmas.List.Elements.{recursion_from_All}
use Rattle.std.proofs.lemmas.List.FromFn.{length-range_with_len, get_or-range_with_len}
use Rattle.mapping_body.specs.Names.{AreAscending, in_byte_order, place_of, put, put_all}
use Rattle.mapping_body.specs.Order.{AreDistinct, IsOrderFrom, name_at, order_from}
use Rattle.mapping_body.proofs.Puts.{AreAscending-in_byte_order, map-put_all}
use Rattle.mapping_body.proofs.Ranks.{same_name}
use Rattle.mapping_body.proofs.Ranks.{by_ordering, compared}
use Rattle.mapping_body.proofs.Walks.{split}

-- ---- elements with different names are put in without loss

abbrev IsNew : {T : Type 0} → (T → List ℕ) → T → List T → Type 0
IsNew {T} name x ys = AllByRecursion (λ (y : T). name y ≡ name x → ⊥) ys

abbrev pub AreApart : {T : Type 0} → (T → List ℕ) → List T → Type 0
AreApart name [] = Unit {0}
AreApart name (x ∷ xs) = IsNew name x xs × AreApart name xs

put_permutes : {T : Type 0} (name : T → List ℕ) (x : T) (ys : List T) → IsNew name x ys → IsPermutation (x ∷ ys) (put name x ys)
put_permutes name x [] new = IsPermutation-refl (x ∷ [])
put_permutes {T} name x (y ∷ ys) new =
    by_ordering (compared (name y) (name x))
    (λ less. rw less (IsPermutation-trans (x ∷ y ∷ ys) (y ∷ x ∷ ys) (y ∷ put name x ys) (IsPermutation-insert (y ∷ ys) 1 x) (IsPermutation-cons y (x ∷ ys) (put name x ys) (put_permutes name x ys new.1))))
    (λ equal. absurd (new.0 (same_name (name y) (name x) equal)))
    (λ greater. rw greater (IsPermutation-refl (x ∷ y ∷ ys)))

new_put : {T : Type 0} (name : T → List ℕ) (z x : T) (ys : List T) → (name x ≡ name z → ⊥) → IsNew name z ys → IsNew name z (put name x ys)
new_put name z x [] other new = (other, tt)
new_put name z x (y ∷ ys) other new =
    by_ordering (compared (name y) (name x))
    (λ less. rw less (new.0, new_put name z x ys other new.1))
    (λ equal. rw equal new)
    (λ greater. rw greater (other, new))

abbrev AllNew : {T : Type 0} → (T → List ℕ) → List T → List T → Type 0
AllNew {T} name ys xs = AllByRecursion (λ (x : T). IsNew name x ys) xs

all_new_put : {T : Type 0} (name : T → List ℕ) (x : T) (ys xs : List T) → IsNew name x xs → AllNew name ys xs → AllNew name (put name x ys) xs
all_new_put name x ys [] apart new = tt
all_new_put name x ys (z ∷ xs) apart new = (new_put name z x ys (λ e. apart.0 (sym e)) new.0, all_new_put name x ys xs apart.1 new.1)

to_front : {T : Type 0} (x : T) (ys xs : List T) → IsPermutation (ys ++ x ∷ xs) (x ∷ (ys ++ xs))
to_front x [] xs = IsPermutation-refl (x ∷ xs)
to_front x (y ∷ ys) xs =
    IsPermutation-trans (y ∷ (ys ++ x ∷ xs)) (y ∷ x ∷ (ys ++ xs)) (x ∷ y ∷ (ys ++ xs))
    (IsPermutation-cons y (ys ++ x ∷ xs) (x ∷ (ys ++ xs)) (to_front x ys xs))
    (IsPermutation-insert (x ∷ (ys ++ xs)) 1 y)

put_all_permutes : {T : Type 0} (name : T → List ℕ) (ys xs : List T) → AllNew name ys xs → AreApart name xs → IsPermutation (ys ++ xs) (put_all name ys xs)
put_all_permutes {T} name ys [] new apart = subst (λ (zs : List T). IsPermutation zs ys) (sym (append-nil ys)) (IsPermutation-refl ys)
put_all_permutes name ys (x ∷ xs) new apart =
    IsPermutation-trans (ys ++ x ∷ xs) (x ∷ (ys ++ xs)) (put_all name (put name x ys) xs) (to_front x ys xs)
    (IsPermutation-trans (x ∷ (ys ++ xs)) (put name x ys ++ xs) (put_all name (put name x ys) xs)
    (IsPermutation-append_left xs (x ∷ ys) (put name x ys) (put_permutes name x ys new.0))
    (put_all_permutes name (put name x ys) xs (all_new_put name x ys xs apart.0 new.1) apart.1))

none_new : {T : Type 0} (name : T → List ℕ) (xs : List T) → AllNew name [] xs
none_new name [] = tt
none_new name (x ∷ xs) = (tt, none_new name xs)

-- ---- numbers whose names are different

module _ (names : List (List ℕ)) (distinct : AreDistinct names) where
  new_range : (k a n : ℕ) → k < a → a + n ≤ length names → IsNew (name_at names) k (range_with_len a n)
  new_range k a zero h within = tt
  new_range k a (suc n) h within =
      let here : a < length names = omega arith in
      let there : k < length names = omega arith in
      (λ e. let same = distinct a k here there e in absurd (omega (arith, same)), new_range k (a + 1) n (omega arith) (omega arith))

  apart_range : (a n : ℕ) → a + n ≤ length names → AreApart (name_at names) (range_with_len a n)
  apart_range a zero within = tt
  apart_range a (suc n) within = (new_range a (a + 1) n (omega arith) (omega arith), apart_range (a + 1) n (omega arith))

  pub order_permutes : (first : ℕ) → first ≤ length names → IsPermutation (range_with_len first (length names - first)) (order_from first names)
  order_permutes first h =
      put_all_permutes (name_at names) [] (range_with_len first (length names - first)) (none_new (name_at names) (range_with_len first (length names - first)))
      (apart_range first (length names - first) (omega arith))

  range_below : (first : ℕ) → first ≤ length names → All (λ (n : ℕ). n < length names) (range_with_len first (length names - first))
  range_below first h k d less =
      let long = length-range_with_len first (length names - first) in
      let inside : k < length names - first = omega (arith, long, less) in
      rw (get_or-range_with_len first (length names - first) k d inside) (omega arith)

  range_has : (first n : ℕ) → first ≤ n → n < length names → Contains (range_with_len first (length names - first)) n
  range_has first n h less =
      let long = length-range_with_len first (length names - first) in
      let inside : n - first < length names - first = omega arith in
      (n - first, omega (arith, long, inside), get_or-range_with_len first (length names - first) (n - first) n inside ∙ omega arith)

  pub is_order : (first : ℕ) → first ≤ length names → IsOrderFrom first names (order_from first names)
  is_order first h =
      let permutes = order_permutes first h in
      record {
        ascending = AreAscending-in_byte_order (name_at names) (range_with_len first (length names - first));
        in_range = All-permutation (λ (n : ℕ). n < length names) (range_with_len first (length names - first)) (order_from first names) permutes (range_below first h);
        covers = λ n after less. Contains-permutation (range_with_len first (length names - first)) (order_from first names) n permutes (range_has first n after less);
        distinct = distinct;
      }

-- ---- a name is found by its number

position_at : (sought : List ℕ) (names : List (List ℕ)) (at n : ℕ) → n < length names → bytes_eq (name_at names n) sought ≡ true
    → ((k : ℕ) → k < n → bytes_eq (name_at names k) sought ≡ false) → position_from (λ other. bytes_eq other sought) at names ≡ Some (at + n)
position_at sought [] at n h here before = absurd (omega arith)
position_at sought (x ∷ names) at zero h here before = let e : at + 0 ≡ at = omega arith in rw (here, e) refl
position_at sought (x ∷ names) at (suc n) h here before =
    let e : at + suc n ≡ at + 1 + n = omega arith in
    rw (before 0 (omega arith), e) (position_at sought names (at + 1) n (omega arith) here (λ k less. before (suc k) (omega arith)))

position_none : (sought : List ℕ) (names : List (List ℕ)) (at : ℕ) → ((k : ℕ) → k < length names → bytes_eq (name_at names k) sought ≡ false)
    → position_from (λ other. bytes_eq other sought) at names ≡ None
position_none sought [] at all = refl
position_none sought (x ∷ names) at all = rw (all 0 (omega arith)) (position_none sought names (at + 1) (λ k less. all (suc k) (omega arith)))

pub none_at : (sought : List ℕ) (names : List (List ℕ)) (at k : ℕ) → position_from (λ other. bytes_eq other sought) at names ≡ None → k < length names → bytes_eq (name_at names k) sought ≡ false
none_at sought [] at k none h = absurd (omega arith)
none_at sought (x ∷ names) at zero none h =
    split (bytes_eq x sought)
    (λ same. let met : Some at ≡ None = rw same at none in cc)
    (λ other. other)
none_at sought (x ∷ names) at (suc k) none h =
    split (bytes_eq x sought)
    (λ same. let met : Some at ≡ None = rw same at none in cc)
    (λ other. none_at sought names (at + 1) k (rw other at none) (omega arith))

pub place_is : (sought : List ℕ) (names : List (List ℕ)) (n : ℕ) → AreDistinct names → n < length names → bytes_eq (name_at names n) sought ≡ true → place_of sought names ≡ Some n
place_is sought names n distinct h here =
    let start : 0 + n ≡ n = omega arith in
    rw start at (position_at sought names 0 n h here (λ k less.
    split (bytes_eq (name_at names k) sought)
    (λ same.
    let one : name_at names k ≡ name_at names n = (bytes_eq-Decides (name_at names k) sought).0 same ∙ sym ((bytes_eq-Decides (name_at names n) sought).0 here) in
    let e = distinct k n (omega arith) h one in
    absurd (omega (arith, e)))
    (λ other. other)))

pub place_none : (sought : List ℕ) (names : List (List ℕ)) (order : List ℕ) → IsOrderFrom 0 names order
    → position_from (λ other. bytes_eq other sought) 0 (map (name_at names) order) ≡ None → place_of sought names ≡ None
place_none sought names order is none =
    position_none sought names 0 (λ k h.
    let there = is.covers k (omega arith) h in
    let within : there.0 < length (map (name_at names) order) = omega (arith, length-map order (name_at names), there.1) in
    let false_there = none_at sought (map (name_at names) order) 0 there.0 none within in
    let named : name_at (map (name_at names) order) there.0 ≡ name_at names k =
    get_or-map (name_at names) order there.0 k [] there.1 ∙ ap (name_at names) there.2 in
    rw named at false_there)

-- ---- numbers read from an order

pub same_item : (xs : List ℕ) (i d e : ℕ) → i < length xs → get_or xs i d ≡ get_or xs i e
same_item [] i d e h = absurd (omega arith)
same_item (x ∷ xs) zero d e h = refl
same_item (x ∷ xs) (suc i) d e h = same_item xs i d e (omega arith)

-- ---- places in lists behind one another

pub place_before : (sought : List ℕ) (xs ys : List (List ℕ)) (at k : ℕ) → position_from (λ other. bytes_eq other sought) at xs ≡ Some k
    → position_from (λ other. bytes_eq other sought) at (xs ++ ys) ≡ Some k
place_before sought [] ys at k e = cc
place_before sought (x ∷ xs) ys at k e =
    split (bytes_eq x sought)
    (λ same. let here : Some at ≡ Some k = rw same at e in rw same here)
    (λ other. rw other (place_before sought xs ys (at + 1) k (rw other at e)))

further : (sought : List ℕ) (n at : ℕ) (ys : List (List ℕ)) → position_from (λ other. bytes_eq other sought) (n + at) ys ≡ option_map (λ k. n + k) (position_from (λ other. bytes_eq other sought) at ys)
further sought n at [] = refl
further sought n at (y ∷ ys) =
    split (bytes_eq y sought)
    (λ same. rw same refl)
    (λ other. let step : n + at + 1 ≡ n + (at + 1) = omega arith in rw (other, step) (further sought n (at + 1) ys))

position_behind : (sought : List ℕ) (xs ys : List (List ℕ)) (at : ℕ) → position_from (λ other. bytes_eq other sought) at xs ≡ None
    → position_from (λ other. bytes_eq other sought) at (xs ++ ys) ≡ position_from (λ other. bytes_eq other sought) (length xs + at) ys
position_behind sought [] ys at e = let none : 0 + at ≡ at = omega arith in rw none refl
position_behind sought (x ∷ xs) ys at e =
    split (bytes_eq x sought)
    (λ same. let met : Some at ≡ None = rw same at e in cc)
    (λ other. let step : length (x ∷ xs) + at ≡ length xs + (at + 1) = omega arith in rw (other, step) (position_behind sought xs ys (at + 1) (rw other at e)))

pub place_behind : (sought : List ℕ) (xs ys : List (List ℕ)) → place_of sought xs ≡ None → place_of sought (xs ++ ys) ≡ option_map (λ k. length xs + k) (place_of sought ys)
place_behind sought xs ys e = position_behind sought xs ys 0 e ∙ further sought (length xs) 0 ys

-- ---- elements are put in place as what they stand for is

module _ {T : Type 0} {U : Type 0} (f : T → U) (name : T → List ℕ) (other : U → List ℕ) where
  abbrev AreNamed : List T → Type 0
  AreNamed xs = AllByRecursion (λ (x : T). name x ≡ other (f x)) xs

  map_put_as : (x : T) (ys : List T) → name x ≡ other (f x) → AreNamed ys → (map f (put name x ys) ≡ put other (f x) (map f ys)) × AreNamed (put name x ys)
  map_put_as x [] here all = (refl, (here, tt))
  map_put_as x (y ∷ ys) here all =
      by_ordering (compared (name y) (name x))
      (λ less.
      let less_there : compared (other (f y)) (other (f x)) ≡ Less = rw (sym here, sym all.0) less in
      let rest = map_put_as x ys here all.1 in
      rw (less, less_there) (ap (λ (us : List U). f y ∷ us) rest.0, (all.0, rest.1)))
      (λ equal. let equal_there : compared (other (f y)) (other (f x)) ≡ Equal = rw (sym here, sym all.0) equal in rw (equal, equal_there) (refl, all))
      (λ greater. let greater_there : compared (other (f y)) (other (f x)) ≡ Greater = rw (sym here, sym all.0) greater in rw (greater, greater_there) (refl, (here, all)))

  map_put_all_as : (ys xs : List T) → AreNamed ys → AreNamed xs → map f (put_all name ys xs) ≡ put_all other (map f ys) (map f xs)
  map_put_all_as ys [] there all = refl
  map_put_all_as ys (x ∷ xs) there all =
      let step = map_put_as x ys all.0 there in
      map_put_all_as (put name x ys) xs step.1 all.1 ∙ ap (λ (us : List U). put_all other us (map f xs)) step.0

  pub in_order_as : (xs : List T) → All (λ (x : T). name x ≡ other (f x)) xs → map f (in_byte_order name xs) ≡ in_byte_order other (map f xs)
  in_order_as xs all = map_put_all_as [] xs tt (recursion_from_All (λ (x : T). name x ≡ other (f x)) xs all)

range_apart : (a n : ℕ) → range_with_len a (n + 1) ≡ range_with_len a n ++ (a + n) ∷ []
range_apart a zero = let e : a + 0 ≡ a = omega arith in rw e refl
range_apart a (suc n) =
    let s : suc n + 1 ≡ suc (n + 1) = omega arith in
    let e : a + suc n ≡ a + 1 + n = omega arith in
    rw (s, e) (ap (λ (ns : List ℕ). a ∷ ns) (range_apart (a + 1) n))

pub range_more : (a i : ℕ) → a ≤ i → range_with_len a (i + 1 - a) ≡ range_with_len a (i - a) ++ i ∷ []
range_more a i h =
    let one : i + 1 - a ≡ i - a + 1 = omega arith in
    let last : a + (i - a) ≡ i = omega arith in
    rw one (rw last at (range_apart a (i - a)))
