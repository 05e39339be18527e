-- Rows that are gone through one after the other come to the page of all of them.
use Rattle.std.proofs.Common.{◌≡◌, ℕ, zero, suc, ◌+◌, ◌-◌, ◌<◌, ◌≤◌, ◌==◌, Bool, true, false, ◌||◌, cond, List, [], ◌∷◌, ◌++◌, map, filter, take, drop, length, length-append, refl, sym, ap, ◌∙◌, append_assoc, arith}
use Rattle.std.specs.Prelude.{Option, Some, None, slice_get}
use Rattle.std.specs.List.{flat_map, list_any, enumerate_from}
use Rattle.std.specs.Ordering.{is_lt, ordering_reverse}
use Rattle.std.specs.declared.cmp.Ordering.{Ordering}
use Rattle.std.specs.declared.cmp.Ordering.TheVariants.{Less, Equal, Greater}
use Rattle.std.proofs.lemmas.Bool.{false≢true}
use Rattle.tree_objects.specs.declared.field_value.FieldValue.{FieldValue}
use Rattle.query_ast.specs.Compare.{each_once, in_order}
use Rattle.composite_aggs.specs.Composite.{Keyed, key_order, is_lower, is_same_key, shows_key, keyed, keys_shown, full_list, is_behind, page_behind}
use Rattle.composite_aggs.specs.Kept.{is_last, put_once, with_place, added, added_all, added_rows}
use Rattle.composite_aggs.specs.Rows.{index_of, places_of}
use Rattle.query_ast.proofs.Keys.{Ascend, any_key, behind_apart, by_order, keys_ascend, less_apart, less_back, less_on, one_ascending, same_itself}
use Rattle.query_ast.proofs.Elements.{Each, by_test, each_as}
use Rattle.composite_aggs.proofs.Lists.{take_twice, nothing_more, filter-append, map-append}
use Rattle.composite_aggs.proofs.Values.{key_total, key_exact}

abbrev Key : Type 0
Key = List FieldValue

abbrev Bucket : Type 0
Bucket = Keyed ℕ

-- ---- orders of two keys, as tests

pub lower_is : (a b : Key) → key_order a b ≡ Less → is_lower a b ≡ true
lower_is a b h = ap is_lt h

higher_is : (a b : Key) → key_order a b ≡ Greater → is_lower b a ≡ true
higher_is a b h = ap is_lt (key_total.antisymm b a ∙ ap ordering_reverse h)

apart_is : (a b : Key) → is_lower a b ≡ true → is_same_key b a ≡ false
apart_is a b h = less_back key_order key_total key_exact a b h

-- ---- a key put among others

abbrev put : Ordering → Key → Key → List Key → List Key → List Key
put Less key x xs more = x ∷ more
put Equal key x xs more = x ∷ xs
put Greater key x xs more = key ∷ x ∷ xs

abbrev put_key : Key → List Key → List Key
put_key key [] = key ∷ []
put_key key (x ∷ xs) = put (key_order x key) key x xs (put_key key xs)

each_put : (P : Key → Type 0) (key : Key) (xs : List Key) → P key → Each P xs → Each P (put_key key xs)
each_put P key [] p h = (p, tt)
each_put P key (x ∷ xs) p h =
    by_order (key_order x key)
    (λ e. rw e (h.0, each_put P key xs p h.1))
    (λ e. rw e h)
    (λ e. rw e (p, h))

abbrev Rising : List Key → Type 0
Rising = Ascend key_order key_total key_exact

put_ascends : (key : Key) (xs : List Key) → Rising xs → Rising (put_key key xs)
put_ascends key [] a = (tt, tt)
put_ascends key (x ∷ xs) a =
    by_order (key_order x key)
    (λ e. rw e (each_put (λ y. is_lower x y ≡ true) key xs (lower_is x key e) a.0, put_ascends key xs a.1))
    (λ e. rw e a)
    (λ e. let front : is_lower key x ≡ true = higher_is x key e in
    rw e ((front, each_as (λ y. is_lower x y ≡ true) (λ y. is_lower key y ≡ true) (λ y g. less_on key_order key_total key_exact key x y front g) xs a.0), a))

or_swap : (a b c : Bool) → (a || (b || c)) ≡ (b || (a || c))
or_swap true true c = refl
or_swap true false c = refl
or_swap false b c = refl

or_twice : (a b : Bool) → (a || (a || b)) ≡ (a || b)
or_twice true b = refl
or_twice false b = refl

any_put : (v key : Key) (xs : List Key) → list_any (is_same_key v) (put_key key xs) ≡ (is_same_key v key || list_any (is_same_key v) xs)
any_put v key [] = refl
any_put v key (x ∷ xs) =
    by_order (key_order x key)
    (λ e. rw e (ap (λ (b : Bool). is_same_key v x || b) (any_put v key xs) ∙ or_swap (is_same_key v x) (is_same_key v key) (list_any (is_same_key v) xs)))
    (λ e. let one : x ≡ key = key_exact x key e in
    rw (e, one) (sym (or_twice (is_same_key v key) (list_any (is_same_key v) xs))))
    (λ e. rw e refl)

any_end : (v key : Key) (xs : List Key) → list_any (is_same_key v) (xs ++ key ∷ []) ≡ (is_same_key v key || list_any (is_same_key v) xs)
any_end v key [] = refl
any_end v key (x ∷ xs) =
    ap (λ (b : Bool). is_same_key v x || b) (any_end v key xs) ∙ or_swap (is_same_key v x) (is_same_key v key) (list_any (is_same_key v) xs)

abbrev ordered : List Key → List Key
ordered xs = in_order is_lower (each_once is_same_key xs)

ordered_end : (xs : List Key) (key : Key) → ordered (xs ++ key ∷ []) ≡ put_key key (ordered xs)
ordered_end xs key =
    one_ascending key_order key_total key_exact (ordered (xs ++ key ∷ [])) (put_key key (ordered xs))
    (keys_ascend key_order key_total key_exact (xs ++ key ∷ []))
    (put_ascends key (ordered xs) (keys_ascend key_order key_total key_exact xs))
    (λ v. any_key key_order key_total key_exact v (xs ++ key ∷ [])
    ∙ any_end v key xs
    ∙ sym (any_put v key (ordered xs) ∙ ap (λ (b : Bool). is_same_key v key || b) (any_key key_order key_total key_exact v xs)))

-- ---- a place put last

get_end : (p : ℕ) (ps : List ℕ) → slice_get (ps ++ p ∷ []) (length ps) ≡ Some p
get_end p [] = refl
get_end p (q ∷ ps) = get_end p ps

itself : (p : ℕ) → (p == p) ≡ true
itself p = grind arith

once_there : (p : ℕ) (ps : List ℕ) → put_once p (ps ++ p ∷ []) ≡ ps ++ p ∷ []
once_there p ps =
    let long : length (ps ++ p ∷ []) - 1 ≡ length ps = omega (arith, length-append ps (p ∷ [])) in
    rw (long, get_end p ps, itself p) refl

not_last : (p : ℕ) (ps : List ℕ) (k : ℕ) → Each (λ q. q < p) ps → is_last p (slice_get ps k) ≡ false
not_last p [] k h = refl
not_last p (q ∷ ps) zero h = let less : q < p = h.0 in grind arith
not_last p (q ∷ ps) (suc k) h = not_last p ps k h.1

once_new : (p : ℕ) (ps : List ℕ) → Each (λ q. q < p) ps → put_once p ps ≡ ps ++ p ∷ []
once_new p ps h = rw (not_last p ps (length ps - 1) h) refl

-- ---- the buckets of some rows, and of some keys of one more

module _ {R : Type 0} (keys : ℕ × R → List Key) where
  -- the rows that show a key, by their indices
  abbrev base : List (ℕ × R) → Key → List ℕ
  base rows x = map index_of (filter (shows_key keys x) rows)

  abbrev more_if : ℕ → Bool → List ℕ
  more_if p true = p ∷ []
  more_if p false = []

  -- the bucket of a key of these rows, and of the row p of which only the keys `met` have been looked at
  abbrev bucket : List (ℕ × R) → ℕ → List Key → Key → Bucket
  bucket rows p met x = record { key = x; those = base rows x ++ more_if p (list_any (is_same_key x) met) }

  abbrev AreBefore : ℕ → List (ℕ × R) → Type 0
  AreBefore p rows = Each (λ (row : ℕ × R). row.0 < p) rows

  base_before : (p : ℕ) (rows : List (ℕ × R)) (x : Key) → AreBefore p rows → Each (λ q. q < p) (base rows x)
  base_before p [] x h = tt
  base_before p (row ∷ rows) x h =
      by_test (shows_key keys x row)
      (λ held. rw held (h.0, base_before p rows x h.1))
      (λ failed. rw failed (base_before p rows x h.1))

  same_bucket : (rows : List (ℕ × R)) (p : ℕ) (met : List Key) (key x : Key) → is_same_key x key ≡ false → bucket rows p met x ≡ bucket rows p (met ++ key ∷ []) x
  same_bucket rows p met key x apart =
      ap (λ (b : Bool). let made : Bucket = record { key = x; those = base rows x ++ more_if p b } in made) (sym (any_end x key met ∙ ap (λ (b : Bool). b || list_any (is_same_key x) met) apart))

  same_buckets : (rows : List (ℕ × R)) (p : ℕ) (met : List Key) (key : Key) (xs : List Key) → Each (λ x. is_same_key x key ≡ false) xs → map (bucket rows p met) xs ≡ map (bucket rows p (met ++ key ∷ [])) xs
  same_buckets rows p met key [] apart = refl
  same_buckets rows p met key (x ∷ xs) apart =
      ap (λ (b : Bucket). b ∷ map (bucket rows p met) xs) (same_bucket rows p met key x apart.0)
      ∙ ap (λ (l : List Bucket). bucket rows p (met ++ key ∷ []) x ∷ l) (same_buckets rows p met key xs apart.1)

  any_last : (key : Key) (met : List Key) → list_any (is_same_key key) (met ++ key ∷ []) ≡ true
  any_last key met = any_end key key met ∙ ap (λ (b : Bool). b || list_any (is_same_key key) met) (same_itself key_order key_total key_exact key)

  no_part : (xs ys : List ℕ) → xs ++ ys ≡ [] → xs ≡ []
  no_part [] ys h = refl
  no_part (x ∷ xs) ys h = cc

  -- nobody showed the key before
  first_bucket : (rows : List (ℕ × R)) (p : ℕ) (met : List Key) (key : Key) → base rows key ++ more_if p (list_any (is_same_key key) met) ≡ [] → (let made : Bucket = record { key = key; those = p ∷ [] } in made) ≡ bucket rows p (met ++ key ∷ []) key
  first_bucket rows p met key none =
      let front : base rows key ≡ [] = no_part (base rows key) (more_if p (list_any (is_same_key key) met)) none in
      rw (any_last key met, front) refl

  once_more : (rows : List (ℕ × R)) (p : ℕ) (met : List Key) (key : Key) → AreBefore p rows → put_once p (base rows key ++ more_if p (list_any (is_same_key key) met)) ≡ base rows key ++ p ∷ []
  once_more rows p met key before =
      by_test (list_any (is_same_key key) met)
      (λ held. rw held (once_there p (base rows key)))
      (λ failed. rw failed (ap (put_once p) (nothing_more (base rows key)) ∙ once_new p (base rows key) (base_before p rows key before)))

  later_bucket : (rows : List (ℕ × R)) (p : ℕ) (met : List Key) (key : Key) → AreBefore p rows → (let made : Bucket = record { key = key; those = put_once p (base rows key ++ more_if p (list_any (is_same_key key) met)) } in made) ≡ bucket rows p (met ++ key ∷ []) key
  later_bucket rows p met key before =
      rw (any_last key met) (ap (λ (ps : List ℕ). let made : Bucket = record { key = key; those = ps } in made) (once_more rows p met key before))

  with_is : (rows : List (ℕ × R)) (p : ℕ) (met : List Key) (key : Key) (xs : List Key)
      → AreBefore p rows → Rising xs
      → (list_any (is_same_key key) xs ≡ false → base rows key ++ more_if p (list_any (is_same_key key) met) ≡ [])
      → with_place key p (map (bucket rows p met) xs) ≡ map (bucket rows p (met ++ key ∷ [])) (put_key key xs)
  with_is rows p met key [] before a none = ap (λ (b : Bucket). b ∷ []) (first_bucket rows p met key (none refl))
  with_is rows p met key (x ∷ xs) before a none =
      by_order (key_order x key)
      (λ e.
      let low : is_lower x key ≡ true = lower_is x key e in
      let apart : is_same_key x key ≡ false = less_apart key_order key_total key_exact x key low in
      let back : is_same_key key x ≡ false = apart_is x key low in
      rw e (ap (λ (b : Bucket). b ∷ with_place key p (map (bucket rows p met) xs)) (same_bucket rows p met key x apart)
      ∙ ap (λ (l : List Bucket). bucket rows p (met ++ key ∷ []) x ∷ l)
      (with_is rows p met key xs before a.1 (λ h. none (ap (λ (b : Bool). b || list_any (is_same_key key) xs) back ∙ h)))))
      (λ e.
      let one : x ≡ key = key_exact x key e in
      let later : Each (λ y. is_same_key y key ≡ false) xs = rw (← one) (each_as (λ y. is_lower x y ≡ true) (λ y. is_same_key y x ≡ false) (λ y g. apart_is x y g) xs a.0) in
      rw (e, one) (ap (λ (b : Bucket). b ∷ map (bucket rows p met) xs) (later_bucket rows p met key before)
      ∙ ap (λ (l : List Bucket). bucket rows p (met ++ key ∷ []) key ∷ l) (same_buckets rows p met key xs later)))
      (λ e.
      let low : is_lower key x ≡ true = higher_is x key e in
      let all : Each (λ y. is_lower key y ≡ true) (x ∷ xs) = (low, each_as (λ y. is_lower x y ≡ true) (λ y. is_lower key y ≡ true) (λ y g. less_on key_order key_total key_exact key x y low g) xs a.0) in
      let missing : list_any (is_same_key key) (x ∷ xs) ≡ false = behind_apart key_order key_total key_exact key (x ∷ xs) all in
      let apart : Each (λ y. is_same_key y key ≡ false) (x ∷ xs) = each_as (λ y. is_lower key y ≡ true) (λ y. is_same_key y key ≡ false) (λ y g. apart_is key y g) (x ∷ xs) all in
      rw e (ap (λ (b : Bucket). b ∷ map (bucket rows p met) (x ∷ xs)) (first_bucket rows p met key (none missing))
      ∙ ap (λ (l : List Bucket). bucket rows p (met ++ key ∷ []) key ∷ l) (same_buckets rows p met key (x ∷ xs) apart)))

  -- ---- all buckets of these rows and of those keys of the row p

  abbrev keys_met : List (ℕ × R) → List Key → List Key
  keys_met rows met = flat_map keys rows ++ met

  abbrev all_of : List (ℕ × R) → ℕ → List Key → List Bucket
  all_of rows p met = map (bucket rows p met) (ordered (keys_met rows met))

  any_append : (v : Key) (xs ys : List Key) → list_any (is_same_key v) (xs ++ ys) ≡ (list_any (is_same_key v) xs || list_any (is_same_key v) ys)
  any_append v [] ys = refl
  any_append v (x ∷ xs) ys = rw (any_append v xs ys) (or_assoc (is_same_key v x) (list_any (is_same_key v) xs) (list_any (is_same_key v) ys))
    where
      or_assoc : (a b c : Bool) → (a || (b || c)) ≡ ((a || b) || c)
      or_assoc true b c = refl
      or_assoc false b c = refl

  neither : (a b : Bool) → (a || b) ≡ false → (a ≡ false) × (b ≡ false)
  neither true b h = absurd (false≢true (sym h))
  neither false b h = (refl, h)

  pub none_shows : (rows : List (ℕ × R)) (x : Key) → list_any (is_same_key x) (flat_map keys rows) ≡ false → base rows x ≡ []
  none_shows [] x h = refl
  none_shows (row ∷ rows) x h =
      let parts = neither (shows_key keys x row) (list_any (is_same_key x) (flat_map keys rows)) (sym (any_append x (keys row) (flat_map keys rows)) ∙ h) in
      rw (parts.0) (none_shows rows x parts.1)

  none_met : (rows : List (ℕ × R)) (p : ℕ) (met : List Key) (key : Key) → list_any (is_same_key key) (ordered (keys_met rows met)) ≡ false → base rows key ++ more_if p (list_any (is_same_key key) met) ≡ []
  none_met rows p met key h =
      let parts = neither (list_any (is_same_key key) (flat_map keys rows)) (list_any (is_same_key key) met) (sym (any_append key (flat_map keys rows) met) ∙ sym (any_key key_order key_total key_exact key (keys_met rows met)) ∙ h) in
      rw (parts.1, none_shows rows key parts.0) refl

  with_key_is : (rows : List (ℕ × R)) (p : ℕ) (met : List Key) (key : Key) → AreBefore p rows → with_place key p (all_of rows p met) ≡ all_of rows p (met ++ key ∷ [])
  with_key_is rows p met key before =
      with_is rows p met key (ordered (keys_met rows met)) before (keys_ascend key_order key_total key_exact (keys_met rows met)) (none_met rows p met key)
      ∙ ap (map (bucket rows p (met ++ key ∷ []))) (sym (ordered_end (keys_met rows met) key) ∙ ap ordered (append_assoc (flat_map keys rows) met (key ∷ [])))

-- ---- the first buckets behind a key

-- a bucket of the key, of which only the key is looked at
abbrev blank : Key → Bucket
blank key = record { key = key; those = [] }

take_with : (n : ℕ) (key : Key) (p : ℕ) (bs : List Bucket) → take n (with_place key p (take n bs)) ≡ take n (with_place key p bs)
take_with zero key p bs = refl
take_with (suc n) key p [] = refl
take_with (suc n) key p (b ∷ bs) =
    by_order (key_order b.key key)
    (λ e. rw e (ap (λ l. b ∷ l) (take_with n key p bs)))
    (λ e. rw e (ap (λ l. (let made : Bucket = record { key = b.key; those = put_once p b.those } in made) ∷ l) (take_twice n bs)))
    (λ e. rw e (ap (λ l. (let made : Bucket = record { key = key; those = p ∷ [] } in made) ∷ l) (shorter n b bs)))
  where
    shorter : (n : ℕ) (b : Bucket) (bs : List Bucket) → take n (b ∷ take n bs) ≡ take n (b ∷ bs)
    shorter zero b bs = refl
    shorter (suc n) b bs = ap (λ l. b ∷ l) (less_still n bs)
      where
        less_still : (n : ℕ) (bs : List Bucket) → take n (take (suc n) bs) ≡ take n bs
        less_still zero bs = refl
        less_still (suc n) [] = refl
        less_still (suc n) (b ∷ bs) = ap (λ l. b ∷ l) (less_still n bs)

-- a bucket that isn't behind the key stands before one that is
before_one_behind : (after : Option Key) (key other : Key) → is_behind after (blank key) ≡ true → is_behind after (blank other) ≡ false → is_lower other key ≡ true
before_one_behind None key other h g = absurd (false≢true (sym g))
before_one_behind (Some after) key other h g =
    by_order (key_order after other)
    (λ e. absurd (false≢true (sym g ∙ ap is_lt e)))
    (λ e. let one : after ≡ other = key_exact after other e in ap (λ a. is_lower a key) (sym one) ∙ h)
    (λ e. less_on key_order key_total key_exact other after key (higher_is after other e) h)

lower_not : (a b : Key) (o : Ordering) → key_order a b ≡ o → is_lower a b ≡ true → o ≡ Less
lower_not a b Less e h = refl
lower_not a b Equal e h = absurd (false≢true (sym (ap is_lt e) ∙ h))
lower_not a b Greater e h = absurd (false≢true (sym (ap is_lt e) ∙ h))

-- whether a bucket is behind a key is seen by its own key
only_key : (after : Option Key) (key : Key) (ps : List ℕ) → is_behind {A = ℕ} after (record { key = key; those = ps }) ≡ is_behind after (blank key)
only_key None key ps = refl
only_key (Some a) key ps = refl

abbrev behind : Option Key → Key → Bool
behind after key = is_behind after (blank key)

kept_front : (after : Option Key) (key : Key) (ps : List ℕ) (bs : List Bucket) → behind after key ≡ true → filter (is_behind after) ((let made : Bucket = record { key = key; those = ps } in made) ∷ bs) ≡ (let made : Bucket = record { key = key; those = ps } in made) ∷ filter (is_behind after) bs
kept_front after key ps bs h = rw (only_key after key ps ∙ h) refl

cut_front : (after : Option Key) (key : Key) (ps : List ℕ) (bs : List Bucket) → behind after key ≡ false → filter (is_behind after) ((let made : Bucket = record { key = key; those = ps } in made) ∷ bs) ≡ filter (is_behind after) bs
cut_front after key ps bs h = rw (only_key after key ps ∙ h) refl

behind_with : (after : Option Key) (key : Key) (p : ℕ) (bs : List Bucket) → behind after key ≡ true → filter (is_behind after) (with_place key p bs) ≡ with_place key p (filter (is_behind after) bs)
behind_with after key p [] h = kept_front after key (p ∷ []) [] h
behind_with after key p (b ∷ bs) h =
    by_test (behind after b.key)
    (λ own.
    let front : filter (is_behind after) (b ∷ bs) ≡ b ∷ filter (is_behind after) bs = kept_front after b.key b.those bs own in
    by_order (key_order b.key key)
    (λ e. rw (front, e) (kept_front after b.key b.those (with_place key p bs) own ∙ ap (λ l. b ∷ l) (behind_with after key p bs h)))
    (λ e. rw (front, e) (kept_front after b.key (put_once p b.those) bs own))
    (λ e. rw (front, e) (kept_front after key (p ∷ []) (b ∷ bs) h ∙ ap (λ l. (let made : Bucket = record { key = key; those = p ∷ [] } in made) ∷ l) front)))
    (λ cut.
    let front : filter (is_behind after) (b ∷ bs) ≡ filter (is_behind after) bs = cut_front after b.key b.those bs cut in
    let e : key_order b.key key ≡ Less = lower_not b.key key (key_order b.key key) refl (before_one_behind after key b.key h cut) in
    rw (front, e) (cut_front after b.key b.those (with_place key p bs) cut ∙ behind_with after key p bs h))

not_behind_with : (after : Option Key) (key : Key) (p : ℕ) (bs : List Bucket) → behind after key ≡ false → filter (is_behind after) (with_place key p bs) ≡ filter (is_behind after) bs
not_behind_with after key p [] h = cut_front after key (p ∷ []) [] h
not_behind_with after key p (b ∷ bs) h =
    by_order (key_order b.key key)
    (λ e. rw e (same_front after b (with_place key p bs) bs (not_behind_with after key p bs h)))
    (λ e.
    let one : b.key ≡ key = key_exact b.key key e in
    let cut : behind after b.key ≡ false = ap (behind after) one ∙ h in
    rw e (cut_front after b.key (put_once p b.those) bs cut ∙ sym (cut_front after b.key b.those bs cut)))
    (λ e. rw e (cut_front after key (p ∷ []) (b ∷ bs) h))
  where
    same_front : (after : Option Key) (b : Bucket) (xs ys : List Bucket) → filter (is_behind after) xs ≡ filter (is_behind after) ys → filter (is_behind after) (b ∷ xs) ≡ filter (is_behind after) (b ∷ ys)
    same_front after b xs ys same =
        by_test (is_behind after b) (λ held. rw held (ap (λ l. b ∷ l) same)) (λ failed. rw failed same)

-- one more key of a row, on the page of what has been looked at
added_is : (after : Option Key) (n p : ℕ) (key : Key) (bs more : List Bucket) → with_place key p bs ≡ more → added after n p key (page_behind after n bs) ≡ page_behind after n more
added_is after n p key bs more is =
    by_test (behind after key)
    (λ held. rw held (take_with n key p (filter (is_behind after) bs) ∙ ap (take n) (sym (behind_with after key p bs held) ∙ ap (filter (is_behind after)) is)))
    (λ failed. rw failed (ap (take n) (sym (not_behind_with after key p bs failed) ∙ ap (filter (is_behind after)) is)))

-- ---- rows, one after the other

module _ {R : Type 0} (keys : ℕ × R → List Key) where
  abbrev page_of : Option Key → ℕ → List (ℕ × R) → ℕ → List Key → List Bucket
  page_of after n rows p met = page_behind after n (all_of keys rows p met)

  added_all_is : (after : Option Key) (n : ℕ) (rows : List (ℕ × R)) (p : ℕ) (met more : List Key) → AreBefore keys p rows → added_all after n p more (page_of after n rows p met) ≡ page_of after n rows p (met ++ more)
  added_all_is after n rows p met [] before = ap (page_of after n rows p) (sym (nothing_more met))
  added_all_is after n rows p met (key ∷ more) before =
      ap (added_all after n p more) (added_is after n p key (all_of keys rows p met) (all_of keys rows p (met ++ key ∷ [])) (with_key_is keys rows p met key before))
      ∙ added_all_is after n rows p (met ++ key ∷ []) more before
      ∙ ap (page_of after n rows p) (append_assoc met (key ∷ []) more)

  -- a row of which all keys have been looked at is one of the rows
  those_end : (rows : List (ℕ × R)) (row : ℕ × R) (x : Key) → base keys (rows ++ row ∷ []) x ≡ base keys rows x ++ more_if keys row.0 (shows_key keys x row)
  those_end rows row x =
      ap (map index_of) (filter-append (shows_key keys x) rows (row ∷ []))
      ∙ map-append index_of (filter (shows_key keys x) rows) (filter (shows_key keys x) (row ∷ []))
      ∙ ap (λ l. base keys rows x ++ l) (one (shows_key keys x row))
    where
      one : (b : Bool) → map index_of (cond b (row ∷ []) []) ≡ more_if keys row.0 b
      one true = refl
      one false = refl

  same_at : (xs : List Key) (f g : Key → Bucket) → ((x : Key) → f x ≡ g x) → map f xs ≡ map g xs
  same_at [] f g same = refl
  same_at (x ∷ xs) f g same = ap (λ b. b ∷ map f xs) (same x) ∙ ap (λ l. g x ∷ l) (same_at xs f g same)

  flat_end : (rows : List (ℕ × R)) (row : ℕ × R) → flat_map keys (rows ++ row ∷ []) ≡ flat_map keys rows ++ keys row
  flat_end [] row = nothing_more (keys row)
  flat_end (r ∷ rows) row = ap (λ l. keys r ++ l) (flat_end rows row) ∙ sym (append_assoc (keys r) (flat_map keys rows) (keys row))

  row_done : (rows : List (ℕ × R)) (row : ℕ × R) (q : ℕ) → all_of keys rows row.0 (keys row) ≡ all_of keys (rows ++ row ∷ []) q []
  row_done rows row q =
      let met : keys_met keys rows (keys row) ≡ keys_met keys (rows ++ row ∷ []) [] = sym (flat_end rows row) ∙ sym (nothing_more (flat_map keys (rows ++ row ∷ []))) in
      same_at (ordered (keys_met keys rows (keys row))) (bucket keys rows row.0 (keys row)) (bucket keys (rows ++ row ∷ []) q [])
      (λ x. ap (λ (ps : List ℕ). let made : Bucket = record { key = x; those = ps } in made) (sym (those_end rows row x) ∙ sym (nothing_more (base keys (rows ++ row ∷ []) x))))
      ∙ ap (λ l. map (bucket keys (rows ++ row ∷ []) q []) (ordered l)) met

  before_next : (p : ℕ) (rows : List (ℕ × R)) (r : R) → AreBefore keys p rows → AreBefore keys (p + 1) (rows ++ (p, r) ∷ [])
  before_next p [] r h = (omega arith, tt)
  before_next p (row ∷ rows) r h = (let less : row.0 < p = h.0 in omega arith, before_next p rows r h.1)

  added_rows_is : (after : Option Key) (n p : ℕ) (rows : List (ℕ × R)) (shown : R → List Key) → ((q : ℕ) (r : R) → keys (q, r) ≡ shown r) → (more : List R) → AreBefore keys p rows
      → added_rows after n p (map shown more) (page_of after n rows p []) ≡ page_of after n (rows ++ enumerate_from p more) (p + length more) []
  added_rows_is after n p rows shown are [] before =
      ap (λ l. page_of after n l p []) (sym (nothing_more rows)) ∙ ap (λ q. page_of after n (rows ++ []) q []) (let e : p ≡ p + 0 = omega arith in e)
  added_rows_is after n p rows shown are (r ∷ more) before =
      ap (λ (l : List Key). added_rows after n (p + 1) (map shown more) (added_all after n p l (page_of after n rows p []))) (sym (are p r))
      ∙ ap (added_rows after n (p + 1) (map shown more)) (added_all_is after n rows p [] (keys (p, r)) before ∙ ap (page_behind after n) (row_done rows (p, r) (p + 1)))
      ∙ added_rows_is after n (p + 1) (rows ++ (p, r) ∷ []) shown are more (before_next p rows r before)
      ∙ ap (λ l. page_of after n l (p + 1 + length more) []) (append_assoc rows ((p, r) ∷ []) (enumerate_from (p + 1) more))
      ∙ ap (λ q. page_of after n (rows ++ enumerate_from p (r ∷ more)) q []) (let e : p + 1 + length more ≡ p + suc (length more) = omega arith in e)

  -- ---- the page of all rows, as it is defined

  places_take : (n : ℕ) (bs : List (Keyed (ℕ × R))) → map places_of (take n bs) ≡ take n (map places_of bs)
  places_take zero bs = refl
  places_take (suc n) [] = refl
  places_take (suc n) (b ∷ bs) = ap (λ l. places_of b ∷ l) (places_take n bs)

  same_behind : (after : Option Key) (b : Keyed (ℕ × R)) → is_behind after b ≡ is_behind after (places_of b)
  same_behind None b = refl
  same_behind (Some a) b = refl

  places_filter : (after : Option Key) (bs : List (Keyed (ℕ × R))) → map places_of (filter (is_behind after) bs) ≡ filter (is_behind after) (map places_of bs)
  places_filter after [] = refl
  places_filter after (b ∷ bs) =
      by_test (is_behind after b)
      (λ held. rw (held, sym (same_behind after b) ∙ held) (ap (λ l. places_of b ∷ l) (places_filter after bs)))
      (λ failed. rw (failed, sym (same_behind after b) ∙ failed) (places_filter after bs))

  places_keyed : (rows : List (ℕ × R)) (q : ℕ) (xs : List Key) → map places_of (map (keyed keys rows) xs) ≡ map (bucket keys rows q []) xs
  places_keyed rows q [] = refl
  places_keyed rows q (x ∷ xs) =
      ap (λ (ps : List ℕ). (let made : Bucket = record { key = x; those = ps } in made) ∷ map places_of (map (keyed keys rows) xs)) (sym (nothing_more (base keys rows x)))
      ∙ ap (λ l. bucket keys rows q [] x ∷ l) (places_keyed rows q xs)

  all_is : (rows : List (ℕ × R)) (q : ℕ) → map places_of (full_list keys rows) ≡ all_of keys rows q []
  unfolding full_list keys_shown
  all_is rows q =
      places_keyed rows q (ordered (flat_map keys rows))
      ∙ ap (λ l. map (bucket keys rows q []) (ordered l)) (sym (nothing_more (flat_map keys rows)))

  pub page_is : (after : Option Key) (n : ℕ) (shown : R → List Key) → ((q : ℕ) (r : R) → keys (q, r) ≡ shown r) → (rows : List R) → added_rows after n 0 (map shown rows) [] ≡ map places_of (page_behind after n (full_list keys (enumerate_from 0 rows)))
  page_is after n shown are rows =
      ap (added_rows after n 0 (map shown rows)) (sym (no_rows after n))
      ∙ added_rows_is after n 0 [] shown are rows tt
      ∙ sym (places_take n (filter (is_behind after) (full_list keys (enumerate_from 0 rows)))
      ∙ ap (take n) (places_filter after (full_list keys (enumerate_from 0 rows)) ∙ ap (filter (is_behind after)) (all_is (enumerate_from 0 rows) (0 + length rows))))
    where
      no_rows : (after : Option Key) (n : ℕ) → page_of after n [] 0 [] ≡ []
      no_rows after zero = refl
      no_rows after (suc n) = refl

-- all rows have been gone through
pub gathered_all : {R : Type 0} (keys : ℕ × R → List Key) (shown : R → List Key) → ((q : ℕ) (r : R) → keys (q, r) ≡ shown r) → (after : Option Key) (n i : ℕ) (rows : List R) (bs : List Bucket) → length rows ≤ i → added_rows after n i (map shown (drop i rows)) bs ≡ added_rows after n 0 (map shown rows) [] → bs ≡ map places_of (page_behind after n (full_list keys (enumerate_from 0 rows)))
gathered_all keys shown are after n i rows bs h e =
    sym (ap (λ l. added_rows after n i (map shown l) bs) (dropped rows i h)) ∙ e ∙ page_is keys after n shown are rows
  where
    dropped : {R : Type 0} (rows : List R) (i : ℕ) → length rows ≤ i → drop i rows ≡ []
    dropped [] zero h = refl
    dropped [] (suc i) h = refl
    dropped (r ∷ rows) zero h = absurd (omega arith)
    dropped (r ∷ rows) (suc i) h = dropped rows i (omega arith)
