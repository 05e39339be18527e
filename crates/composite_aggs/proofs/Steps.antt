-- One bucket more: where it is put, and that the buckets still ascend.
use Rattle.std.proofs.Common.{◌≡◌, ℕ, zero, suc, ◌+◌, ◌<◌, ◌≤◌, inl, inr, Bool, true, false, ◌||◌, min, List, [], ◌∷◌, ◌++◌, map, take, drop, set, get_or, length, length-set, refl, sym, ap, ◌∙◌, append_assoc, arith}
use Rattle.std.specs.Prelude.{Option, Some, None, IfSome, IsSome, Result, Ok, Err, OnOk, slice_get, insert}
use Rattle.std.specs.List.{flat_map, list_any}
use Rattle.std.specs.Ordering.{ordering_reverse}
use Rattle.std.specs.declared.cmp.Ordering.{Ordering}
use Rattle.std.specs.declared.cmp.Ordering.TheVariants.{Less, Equal, Greater}
use Rattle.std.proofs.lemmas.Bool.{cases_order, false≢true}
use Rattle.std.proofs.lemmas.List.{length-map}
use Rattle.tree_objects.specs.declared.field_value.FieldValue.{FieldValue}
use Rattle.composite_aggs.specs.Composite.{Keyed, key_order, combinations, combination_count, with_value}
use Rattle.composite_aggs.specs.declared.kept.KeyPlaces.{KeyPlaces}
use Rattle.composite_aggs.specs.declared.pages.Row.{Row}
use Rattle.composite_aggs.specs.Rows.{has_too_many, keys_of, parts_of}
use Rattle.composite_aggs.specs.Kept.{Ascends, IsAt, IsLowerAt, IsSameAt, IsHigherAt, bucket_of, put_once, with_place, added, added_all, added_rows, prefixed}
use Rattle.query_ast.proofs.Keys.{by_order}
use Rattle.query_ast.proofs.Elements.{Each, each_as}
use Rattle.composite_aggs.proofs.Lists.{each_take, map-append}
use Rattle.composite_aggs.proofs.Values.{key_total, key_exact}

abbrev Key : Type 0
Key = List FieldValue

abbrev Bucket : Type 0
Bucket = Keyed ℕ

-- ---- where it is put

-- the bucket with one place more
abbrev pub fuller : ℕ → Bucket → Bucket
fuller p b = record { key = b.key; those = put_once p b.those }

abbrev pub fresh : Key → ℕ → Bucket
fresh key p = record { key = key; those = p ∷ [] }

pub with_found : (key : Key) (p : ℕ) (bs : List Bucket) (i : ℕ) (d : Bucket) → ((k : ℕ) → k < i → IsLowerAt key k bs) → IsSameAt key i bs → i < length bs → with_place key p bs ≡ set bs i (fuller p (get_or bs i d))
with_found key p [] i d lower same h = absurd (omega arith)
with_found key p (b ∷ bs) zero d lower same h = rw same refl
with_found key p (b ∷ bs) (suc i) d lower same h =
    let first = lower 0 (omega arith) in
    rw first (ap (λ l. b ∷ l) (with_found key p bs i d (λ k lt. lower (suc k) (omega arith)) same (omega arith)))

pub with_gap : (key : Key) (p : ℕ) (bs : List Bucket) (i : ℕ) → ((k : ℕ) → k < i → IsLowerAt key k bs) → (i < length bs → IsHigherAt key i bs) → i ≤ length bs → with_place key p bs ≡ insert bs i (fresh key p)
with_gap key p [] zero lower higher h = refl
with_gap key p [] (suc i) lower higher h = absurd (omega arith)
with_gap key p (b ∷ bs) zero lower higher h = let first = higher (omega arith) in rw first refl
with_gap key p (b ∷ bs) (suc i) lower higher h =
    let first = lower 0 (omega arith) in
    rw first (ap (λ l. b ∷ l) (with_gap key p bs i (λ k lt. lower (suc k) (omega arith)) (λ lt. higher (omega arith)) (omega arith)))

-- ---- they still ascend

abbrev IsBelow : Key → Bucket → Type 0
IsBelow key b = key_order key b.key ≡ Less

each_with : (x key : Key) (p : ℕ) (bs : List Bucket) → key_order x key ≡ Less → Each (IsBelow x) bs → Each (IsBelow x) (with_place key p bs)
each_with x key p [] low h = (low, tt)
each_with x key p (b ∷ bs) low h =
    by_order (key_order b.key key)
    (λ e. rw e (h.0, each_with x key p bs low h.1))
    (λ e. rw e (h.0, h.1))
    (λ e. rw e (low, h))

pub with_ascends : (key : Key) (p : ℕ) (bs : List Bucket) → Ascends bs → Ascends (with_place key p bs)
with_ascends key p [] a = (tt, tt)
with_ascends key p (b ∷ bs) a =
    by_order (key_order b.key key)
    (λ e. rw e (each_with b.key key p bs e a.0, with_ascends key p bs a.1))
    (λ e. rw e (a.0, a.1))
    (λ e.
    let front : key_order key b.key ≡ Less = key_total.antisymm key b.key ∙ ap ordering_reverse e in
    rw e ((front, each_as (IsBelow b.key) (IsBelow key) (λ c h. key_total.trans key b.key c.key front h) bs a.0), a))

pub take_ascends : (n : ℕ) (bs : List Bucket) → Ascends bs → Ascends (take n bs)
take_ascends zero bs a = tt
take_ascends (suc n) [] a = tt
take_ascends (suc n) (b ∷ bs) a = (each_take (IsBelow b.key) n bs a.0, take_ascends n bs a.1)

-- ---- several keys

pub added_all-append : (after : Option Key) (size p : ℕ) (xs ys : List Key) (bs : List Bucket) → added_all after size p (xs ++ ys) bs ≡ added_all after size p ys (added_all after size p xs bs)
added_all-append after size p [] ys bs = refl
added_all-append after size p (x ∷ xs) ys bs = added_all-append after size p xs ys (added after size p x bs)

-- ---- lists

pub all_taken : {A : Type 0} (n : ℕ) (xs : List A) → length xs ≤ n → take n xs ≡ xs
all_taken zero [] h = refl
all_taken zero (x ∷ xs) h = absurd (omega arith)
all_taken (suc n) [] h = refl
all_taken (suc n) (x ∷ xs) h = ap (λ l. x ∷ l) (all_taken n xs (omega arith))

pub map-set : {A B : Type 0} (f : A → B) (xs : List A) (i : ℕ) (x : A) → map f (set xs i x) ≡ set (map f xs) i (f x)
map-set f [] i x = refl
map-set f (y ∷ xs) zero x = refl
map-set f (y ∷ xs) (suc i) x = ap (λ l. f y ∷ l) (map-set f xs i x)

pub map-take : {A B : Type 0} (f : A → B) (n : ℕ) (xs : List A) → map f (take n xs) ≡ take n (map f xs)
map-take f zero xs = refl
map-take f (suc n) [] = refl
map-take f (suc n) (x ∷ xs) = ap (λ l. f x ∷ l) (map-take f n xs)

pub map-drop : {A B : Type 0} (f : A → B) (n : ℕ) (xs : List A) → map f (drop n xs) ≡ drop n (map f xs)
map-drop f zero xs = refl
map-drop f (suc n) [] = refl
map-drop f (suc n) (x ∷ xs) = map-drop f n xs

pub map-insert : {A B : Type 0} (f : A → B) (xs : List A) (i : ℕ) (x : A) → map f (insert xs i x) ≡ insert (map f xs) i (f x)
map-insert f xs i x =
    map-append f (take i xs) (x ∷ drop i xs)
    ∙ ap (λ l. l ++ f x ∷ map f (drop i xs)) (map-take f i xs)
    ∙ ap (λ l. take i (map f xs) ++ f x ∷ l) (map-drop f i xs)

pub get_or-map : {A B : Type 0} (f : A → B) (xs : List A) (i : ℕ) (x : A) → get_or (map f xs) i (f x) ≡ f (get_or xs i x)
get_or-map f [] i x = refl
get_or-map f (y ∷ xs) zero x = refl
get_or-map f (y ∷ xs) (suc i) x = get_or-map f xs i x

-- ---- keys that begin alike

pub prefixed_all : (front : Key) (v : FieldValue) (keys : List Key) → map (prefixed front) (map (with_value v) keys) ≡ map (prefixed (front ++ v ∷ [])) keys
prefixed_all front v [] = refl
prefixed_all front v (key ∷ keys) =
    ap (λ k. k ∷ map (prefixed front) (map (with_value v) keys)) (sym (append_assoc front (v ∷ []) key))
    ∙ ap (λ l. ((front ++ v ∷ []) ++ key) ∷ l) (prefixed_all front v keys)

-- the keys of one value more, and then of the others
pub added_value : (after : Option Key) (size p : ℕ) (front : Key) (v : FieldValue) (values : List FieldValue) (keys : List Key) (bs : List Bucket)
    → added_all after size p (map (prefixed front) (flat_map (λ w. map (with_value w) keys) (v ∷ values))) bs
    ≡ added_all after size p (map (prefixed front) (flat_map (λ w. map (with_value w) keys) values)) (added_all after size p (map (prefixed (front ++ v ∷ [])) keys) bs)
added_value after size p front v values keys bs =
    ap (λ l. added_all after size p l bs) (map-append (prefixed front) (map (with_value v) keys) (flat_map (λ w. map (with_value w) keys) values) ∙ ap (λ l. l ++ map (prefixed front) (flat_map (λ w. map (with_value w) keys) values)) (prefixed_all front v keys))
    ∙ added_all-append after size p (map (prefixed (front ++ v ∷ [])) keys) (map (prefixed front) (flat_map (λ w. map (with_value w) keys) values)) bs

-- ---- what a binary search knows

at_each : (P : Bucket → Type 0) (bs : List Bucket) (k : ℕ) → Each P bs → k < length bs → IfSome (slice_get bs k) P
at_each P [] k h lt = tt
at_each P (b ∷ bs) zero h lt = h.0
at_each P (b ∷ bs) (suc k) h lt = at_each P bs k h.1 (omega arith)

below_is : (key x : Key) (o : Option Bucket) → IfSome o (IsBelow x) → IfSome o (λ b. key_order b.key key ≡ Less) → IsSome o → key_order x key ≡ Less
below_is key x None low less some = absurd (false≢true some)
below_is key x (Some b) low less some = key_total.trans x b.key key low less

get_some : (bs : List Bucket) (k : ℕ) → k < length bs → IsSome (slice_get bs k)
get_some [] k h = absurd (omega arith)
get_some (b ∷ bs) zero h = refl
get_some (b ∷ bs) (suc k) h = get_some bs k (omega arith)

-- what stands before a lower one is lower
pub lower_before : (key : Key) (bs : List Bucket) (k m : ℕ) → Ascends bs → k < m → m < length bs → IsLowerAt key m bs → IsLowerAt key k bs
lower_before key [] k m a lt long h = absurd (omega arith)
lower_before key (b ∷ bs) k zero a lt long h = absurd (omega arith)
lower_before key (b ∷ bs) zero (suc m) a lt long h =
    below_is key b.key (slice_get bs m) (at_each (IsBelow b.key) bs m a.0 (omega arith)) h (get_some bs m (omega arith))
lower_before key (b ∷ bs) (suc k) (suc m) a lt long h = lower_before key bs k m a.1 (omega arith) (omega arith) h

above_is : (key x : Key) (o : Option Bucket) → key_order x key ≡ Greater → IfSome o (IsBelow x) → IfSome o (λ b. key_order b.key key ≡ Greater)
above_is key x None more low = tt
above_is key x (Some b) more low =
    let front : key_order key x ≡ Less = key_total.antisymm key x ∙ ap ordering_reverse more in
    let far : key_order key b.key ≡ Less = key_total.trans key x b.key front low in
    key_total.antisymm b.key key ∙ ap ordering_reverse far

-- and what stands behind a higher one is higher
pub higher_behind : (key : Key) (bs : List Bucket) (m k : ℕ) → Ascends bs → m < k → k < length bs → IsHigherAt key m bs → IsHigherAt key k bs
higher_behind key [] m k a lt long h = absurd (omega arith)
higher_behind key (b ∷ bs) m zero a lt long h = absurd (omega arith)
higher_behind key (b ∷ bs) zero (suc k) a lt long h =
    above_is key b.key (slice_get bs k) h (at_each (IsBelow b.key) bs k a.0 (omega arith))
higher_behind key (b ∷ bs) (suc m) (suc k) a lt long h = higher_behind key bs m k a.1 (omega arith) (omega arith) h

below_same : (key x : Key) (o : Option Bucket) → IfSome o (IsBelow x) → IfSome o (λ b. key_order b.key key ≡ Equal) → IsSome o → key_order x key ≡ Less
below_same key x None low same some = absurd (false≢true some)
below_same key x (Some b) low same some = ap (key_order x) (sym (key_exact b.key key same)) ∙ low

same_before : (key : Key) (bs : List Bucket) (k m : ℕ) → Ascends bs → k < m → m < length bs → IsSameAt key m bs → IsLowerAt key k bs
same_before key [] k m a lt long h = absurd (omega arith)
same_before key (b ∷ bs) k zero a lt long h = absurd (omega arith)
same_before key (b ∷ bs) zero (suc m) a lt long h =
    below_same key b.key (slice_get bs m) (at_each (IsBelow b.key) bs m a.0 (omega arith)) h (get_some bs m (omega arith))
same_before key (b ∷ bs) (suc k) (suc m) a lt long h = same_before key bs k m a.1 (omega arith) (omega arith) h

-- ---- the same of what the code keeps

abbrev Kept : Type 0
Kept = List KeyPlaces

pub found_at : (o : Ordering) (kept : Kept) (m : ℕ) (d : KeyPlaces) (own key : Key) → m < length kept → own ≡ (get_or kept m d).key → o ≡ key_order own key → IsAt o key m (map bucket_of kept)
found_at o [] m d own key h is e = absurd (omega arith)
found_at o (k ∷ kept) zero d own key h is e = ap (λ z. key_order z key) (sym is) ∙ sym e
found_at o (k ∷ kept) (suc m) d own key h is e = found_at o kept m d own key (omega arith) is e

pub lower_upto : (key : Key) (kept : Kept) (m : ℕ) → Ascends (map bucket_of kept) → m < length kept → IsLowerAt key m (map bucket_of kept) → (k : ℕ) → k < m + 1 → IsLowerAt key k (map bucket_of kept)
lower_upto key kept m a long h k lt =
    elim (cases_order k m) [
      | inl same ↦ rw same h
      | inr (inl less) ↦ lower_before key (map bucket_of kept) k m a less (omega (arith, length-map kept bucket_of)) h
      | inr (inr more) ↦ absurd (omega arith)
    ]

pub lower_below_same : (key : Key) (kept : Kept) (m : ℕ) → Ascends (map bucket_of kept) → m < length kept → IsSameAt key m (map bucket_of kept) → (k : ℕ) → k < m → IsLowerAt key k (map bucket_of kept)
lower_below_same key kept m a long h k lt =
    same_before key (map bucket_of kept) k m a lt (omega (arith, length-map kept bucket_of)) h

pub higher_from : (key : Key) (kept : Kept) (m : ℕ) → Ascends (map bucket_of kept) → m < length kept → IsHigherAt key m (map bucket_of kept) → (k : ℕ) → m ≤ k → k < length kept → IsHigherAt key k (map bucket_of kept)
higher_from key kept m a long h k from known =
    elim (cases_order m k) [
      | inl same ↦ rw (← same) h
      | inr (inl less) ↦ higher_behind key (map bucket_of kept) m k a less (omega (arith, length-map kept bucket_of)) h
      | inr (inr more) ↦ absurd (omega arith)
    ]

same_parts : (b c : Bucket) → b.key ≡ c.key → b.those ≡ c.those → b ≡ c
same_parts b c key those = ap (λ k. (let made : Bucket = record { key = k; those = b.those } in made)) key ∙ ap (λ ps. (let made : Bucket = record { key = c.key; those = ps } in made)) those

pub put_is : (key : Key) (p size : ℕ) (kept seen : Kept) (i : ℕ) (b made : KeyPlaces) → seen ≡ kept → i < length seen → IsSameAt key i (map bucket_of seen) → ((k : ℕ) → k < i → IsLowerAt key k (map bucket_of seen)) → b ≡ get_or kept i b → made.key ≡ b.key → made.places.items ≡ put_once p b.places.items → length kept ≤ size → map bucket_of (set kept i made) ≡ take size (with_place key p (map bucket_of kept))
put_is key p size kept seen i b made are long same lower is key_is places_is short =
    let shown : IsSameAt key i (map bucket_of kept) = rw are at same in
    let before : (k : ℕ) → k < i → IsLowerAt key k (map bucket_of kept) = rw are at lower in
    let within : i < length (map bucket_of kept) = omega (arith, length-map kept bucket_of, ap length are) in
    let old : get_or (map bucket_of kept) i (bucket_of b) ≡ bucket_of b = get_or-map bucket_of kept i b ∙ ap bucket_of (sym is) in
    let new : bucket_of made ≡ fuller p (bucket_of b) = same_parts (bucket_of made) (fuller p (bucket_of b)) key_is places_is in
    let all : with_place key p (map bucket_of kept) ≡ set (map bucket_of kept) i (bucket_of made) = with_found key p (map bucket_of kept) i (bucket_of b) before shown within ∙ ap (λ c. set (map bucket_of kept) i (fuller p c)) old ∙ ap (set (map bucket_of kept) i) (sym new) in
    map-set bucket_of kept i made
    ∙ sym (all_taken size (set (map bucket_of kept) i (bucket_of made)) (omega (arith, length-set (map bucket_of kept) i (bucket_of made), length-map kept bucket_of)))
    ∙ ap (take size) (sym all)

pub insert_is : (key : Key) (p size : ℕ) (kept seen : Kept) (i : ℕ) (made : KeyPlaces) → seen ≡ kept → i ≤ length seen → (i < length seen → IsHigherAt key i (map bucket_of seen)) → ((k : ℕ) → k < i → IsLowerAt key k (map bucket_of seen)) → made.key ≡ key → made.places.items ≡ p ∷ [] → map bucket_of (take size (insert kept i made)) ≡ take size (with_place key p (map bucket_of kept))
insert_is key p size kept seen i made are long higher lower key_is places_is =
    let behind : i < length kept → IsHigherAt key i (map bucket_of kept) = rw are at higher in
    let before : (k : ℕ) → k < i → IsLowerAt key k (map bucket_of kept) = rw are at lower in
    let within : i ≤ length (map bucket_of kept) = omega (arith, length-map kept bucket_of, ap length are) in
    let new : bucket_of made ≡ fresh key p = same_parts (bucket_of made) (fresh key p) key_is places_is in
    let gap : i < length (map bucket_of kept) → IsHigherAt key i (map bucket_of kept) = λ lt. behind (omega (arith, lt, length-map kept bucket_of)) in
    map-take bucket_of size (insert kept i made)
    ∙ ap (take size) (map-insert bucket_of kept i made ∙ ap (insert (map bucket_of kept) i) new ∙ sym (with_gap key p (map bucket_of kept) i before gap within))

front_taken : {A : Type 0} (n : ℕ) (xs ys : List A) → length xs ≡ n → take n (xs ++ ys) ≡ xs
front_taken zero [] ys h = refl
front_taken zero (x ∷ xs) ys h = absurd (omega arith)
front_taken (suc n) [] ys h = absurd (omega arith)
front_taken (suc n) (x ∷ xs) ys h = ap (λ l. x ∷ l) (front_taken n xs ys (omega arith))

-- a key that is behind all buckets that may be kept
pub full_is : (key : Key) (p size : ℕ) (kept seen : Kept) (i : ℕ) → seen ≡ kept → i ≤ length seen → (i < length seen → IsHigherAt key i (map bucket_of seen)) → ((k : ℕ) → k < i → IsLowerAt key k (map bucket_of seen)) → length kept ≤ size → size ≤ i → map bucket_of kept ≡ take size (with_place key p (map bucket_of kept))
full_is key p size kept seen i are long higher lower short full =
    let behind : i < length kept → IsHigherAt key i (map bucket_of kept) = rw are at higher in
    let before : (k : ℕ) → k < i → IsLowerAt key k (map bucket_of kept) = rw are at lower in
    let same : length (map bucket_of kept) ≡ i = omega (arith, length-map kept bucket_of, ap length are) in
    let gap : i < length (map bucket_of kept) → IsHigherAt key i (map bucket_of kept) = λ lt. absurd (omega (arith, lt, same)) in
    let all : take i (map bucket_of kept) ≡ map bucket_of kept = all_taken i (map bucket_of kept) (omega (arith, same)) in
    let one : size ≡ i = omega (arith, ap length are) in
    sym (ap (take size) (with_gap key p (map bucket_of kept) i before gap (omega (arith, same)))
    ∙ ap (λ l. take size (l ++ fresh key p ∷ drop i (map bucket_of kept))) all
    ∙ front_taken size (map bucket_of kept) (fresh key p ∷ drop i (map bucket_of kept)) (same ∙ sym one))

-- ---- of several outcomes

pub on_ok : {T E P Q : Type 0} (r : Result T E) → (P → Q) → OnOk r P → OnOk r Q
on_ok (Ok x) f h = f h
on_ok (Err e) f h = tt

pub placed_ascend : (key : Key) (p size : ℕ) (bs cs : List Bucket) → Ascends bs → cs ≡ take size (with_place key p bs) → Ascends cs
placed_ascend key p size bs cs a e = rw e (take_ascends size (with_place key p bs) (with_ascends key p bs a))

-- ---- a loop over rows, and one over values

drop_suc : {A : Type 0} (xs : List A) (i : ℕ) (d : A) → i < length xs → drop i xs ≡ get_or xs i d ∷ drop (suc i) xs
drop_suc [] i d h = absurd (omega arith)
drop_suc (x ∷ xs) zero d h = refl
drop_suc (x ∷ xs) (suc i) d h = drop_suc xs i d (omega arith)

pub drop_at : {A : Type 0} (xs : List A) (i : ℕ) (d : A) → i < length xs → drop i xs ≡ get_or xs i d ∷ drop (i + 1) xs
drop_at xs i d h = drop_suc xs i d h ∙ ap (λ n. get_or xs i d ∷ drop n xs) (let e : suc i ≡ i + 1 = omega arith in e)

or_none : (b : Bool) → (b || false) ≡ b
or_none true = refl
or_none false = refl

or_assoc : (a b c : Bool) → (a || (b || c)) ≡ ((a || b) || c)
or_assoc true b c = refl
or_assoc false b c = refl

any_more : {A : Type 0} (t : A → Bool) (xs : List A) (i : ℕ) (d : A) → i < length xs → list_any t (take (suc i) xs) ≡ (list_any t (take i xs) || t (get_or xs i d))
any_more t [] i d h = absurd (omega arith)
any_more t (x ∷ xs) zero d h = or_none (t x)
any_more t (x ∷ xs) (suc i) d h = ap (λ b. t x || b) (any_more t xs i d (omega arith)) ∙ or_assoc (t x) (list_any t (take i xs)) (t (get_or xs i d))

pub none_more : {A : Type 0} (t : A → Bool) (xs : List A) (i : ℕ) (d : A) → i < length xs → list_any t (take i xs) ≡ false → t (get_or xs i d) ≡ false → list_any t (take (i + 1) xs) ≡ false
none_more t xs i d h none failed = ap (λ n. list_any t (take n xs)) (let e : i + 1 ≡ suc i = omega arith in e) ∙ any_more t xs i d h ∙ ap (λ b. b || t (get_or xs i d)) none ∙ failed

pub few : (row : Row) (parts : List (List FieldValue)) (n : ℕ) → parts ≡ parts_of row → n ≡ min (combination_count parts) 10_001 → n ≤ 10_000 → has_too_many row ≡ false
few row parts n is count h = let total : n ≡ min (combination_count (parts_of row)) 10_001 = rw is at count in grind arith

none_prefixed : (keys : List Key) → map (prefixed []) keys ≡ keys
none_prefixed [] = refl
none_prefixed (key ∷ keys) = ap (λ l. key ∷ l) (none_prefixed keys)

-- the keys of a row, which begin with nothing
pub of_row : (after : Option Key) (size p : ℕ) (row : Row) (parts : List (List FieldValue)) (front : Key) (bs mid : List Bucket) → front ≡ [] → parts ≡ parts_of row → mid ≡ added_all after size p (map (prefixed front) (combinations parts)) bs → mid ≡ added_all after size p (keys_of row) bs
of_row after size p row parts front bs mid none is e =
    e
    ∙ ap (λ l. added_all after size p (map (prefixed l) (combinations parts)) bs) none
    ∙ ap (λ l. added_all after size p l bs) (none_prefixed (combinations parts))
    ∙ ap (λ l. added_all after size p (combinations l) bs) is

pub row_step : (after : Option Key) (size i : ℕ) (rows : List Row) (d : Row) (bs mid total : List Bucket) → i < length rows → added_rows after size i (map keys_of (drop i rows)) bs ≡ total → mid ≡ added_all after size i (keys_of (get_or rows i d)) bs → added_rows after size (i + 1) (map keys_of (drop (i + 1) rows)) mid ≡ total
row_step after size i rows d bs mid total h so e =
    ap (added_rows after size (i + 1) (map keys_of (drop (i + 1) rows))) e
    ∙ sym (ap (λ l. added_rows after size i (map keys_of l) bs) (drop_at rows i d h))
    ∙ so

pub value_step : (after : Option Key) (size p : ℕ) (front : Key) (values : List FieldValue) (keys : List Key) (i : ℕ) (d : FieldValue) (seen : Key) (bs mid total : List Bucket) → i < length values
    → added_all after size p (map (prefixed front) (flat_map (λ w. map (with_value w) keys) (drop i values))) bs ≡ total
    → seen ≡ front ++ get_or values i d ∷ []
    → mid ≡ added_all after size p (map (prefixed seen) keys) bs
    → added_all after size p (map (prefixed front) (flat_map (λ w. map (with_value w) keys) (drop (i + 1) values))) mid ≡ total
value_step after size p front values keys i d seen bs mid total h so is e =
    ap (added_all after size p (map (prefixed front) (flat_map (λ w. map (with_value w) keys) (drop (i + 1) values)))) (e ∙ ap (λ l. added_all after size p (map (prefixed l) keys) bs) is)
    ∙ sym (added_value after size p front (get_or values i d) (drop (i + 1) values) keys bs)
    ∙ sym (ap (λ l. added_all after size p (map (prefixed front) (flat_map (λ w. map (with_value w) keys) l)) bs) (drop_at values i d h))
    ∙ so

pub cut_back : (n : ℕ) (front : Key) (v : FieldValue) (seen cut : Key) → seen ≡ front ++ v ∷ [] → cut ≡ take n seen → n ≡ length front → cut ≡ front
cut_back n front v seen cut is e long = e ∙ ap (take n) is ∙ front_taken n front (v ∷ []) (sym long)
