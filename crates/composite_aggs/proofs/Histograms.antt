-- What a histogram counts: intervals by start, and with those between them.
use Rattle.std.proofs.Common.{◌≡◌, ℕ, suc, ◌+◌, ◌<◌, ◌≤◌, ◌⊎◌, inl, inr, Bool, true, false, not, ◌&&◌, ◌||◌, cond, List, [], ◌∷◌, ◌++◌, map, filter, take, length, length-take, refl, sym, ap, ◌∙◌, arith, ℤ, ◌<ℤ◌, ◌≤ℤ◌, int_lt}
use Rattle.std.specs.Prelude.{Option, Some, None, option_map, Contains}
use Rattle.std.specs.List.{cons_option, flat_map, last_or, list_any, enumerate_from}
use Rattle.std.proofs.lemmas.Bool.{false≢true}
use Rattle.std.proofs.lemmas.Int.{ints}
use Rattle.std.proofs.lemmas.List.{length-map}
use Rattle.tree_objects.specs.declared.field_value.FieldValue.{FieldValue}
use Rattle.tree_objects.specs.declared.field_value.FieldValue.TheVariants.{Number, Written}
use Rattle.calendar_intervals.specs.Starts.{starts, start_of, years_end}
use Rattle.calendar_intervals.specs.declared.interval.Interval.{Interval}
use Rattle.query_ast.specs.Compare.{each_once, each_once_but}
use Rattle.composite_aggs.specs.Composite.{Keyed, key_order, is_lower, is_same_key, shows_key, keyed, keys_shown, full_list, is_behind, page_behind, start_key, start_keys, lies_between, filled, histogram_of}
use Rattle.composite_aggs.specs.Spread.{AreStarts, IsFillCause, IsStartKey, empty, first_of, keys_in, left_of, merged, spread}
use Rattle.composite_aggs.specs.Kept.{bucket_of}
use Rattle.composite_aggs.specs.declared.kept.KeyPlaces.{KeyPlaces}
use Rattle.composite_aggs.specs.declared.refusal.PageRefusal.{PageRefusal}
use Rattle.composite_aggs.specs.declared.refusal.PageRefusal.TheVariants.{TooManyBuckets, TooManyCombinations, NoMemory}
use Rattle.composite_aggs.specs.Rows.{IsHistogramCause, date_keys, index_of, places_of}
use Rattle.composite_aggs.proofs.Spread.{IsIn, Sorted, contains, is_in}
use Rattle.composite_aggs.proofs.Gathered.{none_shows}
use Rattle.query_ast.proofs.Keys.{Ascend, all_in_order, any_key, keys_ascend, less_apart, less_back, one_ascending, same_is, same_itself}
use Rattle.query_ast.proofs.Elements.{Each, by_test, each_as}
use Rattle.composite_aggs.proofs.Lists.{each_take}
use Rattle.composite_aggs.proofs.Steps.{all_taken}
use Rattle.composite_aggs.proofs.Values.{key_total, key_exact}

abbrev Key : Type 0
Key = List FieldValue

abbrev Bucket : Type 0
Bucket = Keyed ℕ

abbrev Rising : List Key → Type 0
Rising = Ascend key_order key_total key_exact

abbrev has : Key → List Key → Bool
has x keys = list_any (is_same_key x) keys

-- ---- lists, element by element

module _ {A B : Type 0} where
  pub each_map : (P : B → Type 0) (f : A → B) (xs : List A) → Each (λ x. P (f x)) xs → Each P (map f xs)
  each_map P f [] h = tt
  each_map P f (x ∷ xs) h = (h.0, each_map P f xs h.1)

module _ {A : Type 0} where
  each_filter : (P : A → Type 0) (p : A → Bool) (xs : List A) → Each P xs → Each P (filter p xs)
  each_filter P p [] h = tt
  each_filter P p (x ∷ xs) h =
      by_test (p x)
      (λ held. rw held (h.0, each_filter P p xs h.1))
      (λ failed. rw failed (each_filter P p xs h.1))

  pub same_filter : (p q : A → Bool) (xs : List A) → ((x : A) → p x ≡ q x) → filter p xs ≡ filter q xs
  same_filter p q [] same = refl
  same_filter p q (x ∷ xs) same =
      by_test (q x)
      (λ held. rw (same x ∙ held, held) (ap (λ l. x ∷ l) (same_filter p q xs same)))
      (λ failed. rw (same x ∙ failed, failed) (same_filter p q xs same))

  each_append : (P : A → Type 0) (xs ys : List A) → Each P xs → Each P ys → Each P (xs ++ ys)
  each_append P [] ys h g = g
  each_append P (x ∷ xs) ys h g = (h.0, each_append P xs ys h.1 g)

  fewer : (p : A → Bool) (xs : List A) → length (filter p xs) ≤ length xs
  fewer p [] = omega arith
  fewer p (x ∷ xs) =
      by_test (p x)
      (λ held. let rest = fewer p xs in rw held (omega (arith, rest)))
      (λ failed. let rest = fewer p xs in rw failed (omega (arith, rest)))

module _ {A B : Type 0} where
  each_flat : (P : B → Type 0) (f : A → List B) (xs : List A) → ((x : A) → Each P (f x)) → Each P (flat_map f xs)
  each_flat P f [] h = tt
  each_flat P f (x ∷ xs) h = each_append P (f x) (flat_map f xs) (h x) (each_flat P f xs h)

each_once_each : (P : Key → Type 0) (met xs : List Key) → Each P xs → Each P (each_once_but is_same_key met xs)
each_once_each P met [] h = tt
each_once_each P met (x ∷ xs) h =
    by_test (list_any (is_same_key x) met)
    (λ held. rw held (each_once_each P met xs h.1))
    (λ failed. rw failed (h.0, each_once_each P (x ∷ met) xs h.1))

-- ---- starts as keys

pub start_less : (a b : ℤ) → is_lower (start_key a) (start_key b) ≡ int_lt a b
start_less a b =
    by_test (int_lt a b)
    (λ held. rw held refl)
    (λ failed. by_test (int_lt b a) (λ back. rw (failed, back) refl) (λ none. rw (failed, none) refl))

is_less : (a b : ℤ) → a <ℤ b → int_lt a b ≡ true
is_less a b h = grind (arith, ints)

pub not_less : (a b : ℤ) → int_lt a b ≡ false → b ≤ℤ a
not_less a b h = grind (arith, ints)

rising_starts : (xs : List ℤ) → Sorted xs → Rising (map start_key xs)
rising_starts [] h = tt
rising_starts (x ∷ xs) h =
    (each_map (λ y. is_lower (start_key x) y ≡ true) start_key xs (each_as (λ y. x <ℤ y) (λ y. is_lower (start_key x) (start_key y) ≡ true) (λ y g. start_less x y ∙ is_less x y g) xs h.0), rising_starts xs h.1)

sorted_filter : (p : ℤ → Bool) (xs : List ℤ) → Sorted xs → Sorted (filter p xs)
sorted_filter p [] h = tt
sorted_filter p (x ∷ xs) h =
    by_test (p x)
    (λ held. rw held (each_filter (λ y. x <ℤ y) p xs h.0, sorted_filter p xs h.1))
    (λ failed. rw failed (sorted_filter p xs h.1))

rising_filter : (p : Key → Bool) (xs : List Key) → Rising xs → Rising (filter p xs)
rising_filter p [] h = tt
rising_filter p (x ∷ xs) h =
    by_test (p x)
    (λ held. rw held (each_filter (λ y. is_lower x y ≡ true) p xs h.0, rising_filter p xs h.1))
    (λ failed. rw failed (rising_filter p xs h.1))

filter_in : (p : ℤ → Bool) (xs : List ℤ) (s : ℤ) → IsIn s (filter p xs) → IsIn s xs
filter_in p [] s h = h
filter_in p (x ∷ xs) s h =
    by_test (p x)
    (λ held. at_front (λ there. filter_in p xs s there) (rw held at h))
    (λ failed. inr (filter_in p xs s (rw failed at h)))
  where
    at_front : (IsIn s (filter p xs) → IsIn s xs) → IsIn s (x ∷ filter p xs) → IsIn s (x ∷ xs)
    at_front rest (inl e) = inl e
    at_front rest (inr there) = inr (rest there)

in_filter : (p : ℤ → Bool) (xs : List ℤ) (s : ℤ) → p s ≡ true → IsIn s xs → IsIn s (filter p xs)
in_filter p [] s h m = m
in_filter p (x ∷ xs) s h (inl e) = rw (ap p (sym e) ∙ h) (inl e)
in_filter p (x ∷ xs) s h (inr there) =
    by_test (p x)
    (λ held. rw held (inr (in_filter p xs s h there)))
    (λ failed. rw failed (in_filter p xs s h there))

has_start : (xs : List ℤ) (s : ℤ) → IsIn s xs → has (start_key s) (map start_key xs) ≡ true
has_start [] s m = absurd m
has_start (x ∷ xs) s (inl e) = ap (λ (b : Bool). b || has (start_key s) (map start_key xs)) (ap (λ z. is_same_key (start_key s) (start_key z)) (sym e) ∙ same_itself key_order key_total key_exact (start_key s))
has_start (x ∷ xs) s (inr there) = ap (λ (b : Bool). is_same_key (start_key s) (start_key x) || b) (has_start xs s there) ∙ or_true (is_same_key (start_key s) (start_key x))
  where
    or_true : (b : Bool) → (b || true) ≡ true
    or_true true = refl
    or_true false = refl

-- ---- each key of a date is that of an interval

last_in : (o : Option ℤ) (xs : List ℤ) (s : ℤ) → last_or o xs ≡ Some s → (o ≡ Some s) ⊎ IsIn s xs
last_in o [] s e = inl e
last_in o (x ∷ xs) s e =
    elim (last_in (Some x) xs s e) [
      | inl here ↦ (let same : s ≡ x = cc in inr (inl same))
      | inr there ↦ inr (inr there)
    ]

none_some : {A : Type 0} (x : A) → None ≡ Some x → ⊥
none_some x e = cc

start_among : (interval : Interval) (z s : ℤ) → start_of interval z ≡ Some s → Contains (starts interval) s
unfolding start_of
start_among interval z s e =
    by_test (int_lt z years_end)
    (λ held.
    let given : last_or None (filter (λ t. not (int_lt z t)) (starts interval)) ≡ Some s = rw held at e in
    elim (last_in None (filter (λ t. not (int_lt z t)) (starts interval)) s given) [
      | inl no_start ↦ absurd (none_some s no_start)
      | inr there ↦ contains (starts interval) s (filter_in (λ t. not (int_lt z t)) (starts interval) s there)
    ])
    (λ failed. absurd (none_some s (rw failed at e)))

each_start : (interval : Interval) (dates : List FieldValue) → Each (IsStartKey interval) (start_keys interval dates)
each_start interval [] = tt
each_start interval (Written t ∷ dates) = each_start interval dates
each_start interval (Number z ∷ dates) = of_option interval z (start_keys interval dates) (start_of interval z) refl (each_start interval dates)
  where
    of_option : (interval : Interval) (z : ℤ) (more : List Key) (o : Option ℤ) → start_of interval z ≡ o → Each (IsStartKey interval) more → Each (IsStartKey interval) (cons_option (option_map start_key o) more)
    of_option interval z more None e rest = rest
    of_option interval z more (Some s) e rest = ((s, refl, start_among interval z s e), rest)

abbrev Rows : Type 0
Rows = List (ℕ × List FieldValue)

pub shown_starts : (interval : Interval) (rows : Rows) → Each (IsStartKey interval) (keys_shown (date_keys interval) rows)
unfolding keys_shown
shown_starts interval rows =
    all_in_order key_order key_total key_exact (IsStartKey interval) (each_once is_same_key (flat_map (date_keys interval) rows))
    (each_once_each (IsStartKey interval) [] (flat_map (date_keys interval) rows) (each_flat (IsStartKey interval) (date_keys interval) rows (λ row. each_start interval row.1)))

-- ---- keys among the starts between them

any_each : (P : Key → Type 0) (keys : List Key) (x : Key) → Each P keys → has x keys ≡ true → P x
any_each P [] x h e = absurd (false≢true e)
any_each P (k ∷ keys) x h e =
    by_test (is_same_key x k)
    (λ held. let one : x ≡ k = same_is key_order key_total key_exact x k held in rw one h.0)
    (λ failed. any_each P keys x h.1 (rw failed at e))

any_not : (t : Key → Bool) (keys : List Key) (x : Key) → ((k : Key) → is_same_key x k ≡ true → t k ≡ false) → has x keys ≡ true → list_any (λ k. not (t k)) keys ≡ true
any_not t [] x same e = absurd (false≢true e)
any_not t (k ∷ keys) x same e =
    by_test (is_same_key x k)
    (λ held. rw (same k held) refl)
    (λ failed. ap (λ (b : Bool). not (t k) || b) (any_not t keys x same (rw failed at e)) ∙ or_true (not (t k)))
  where
    or_true : (b : Bool) → (b || true) ≡ true
    or_true true = refl
    or_true false = refl

same_not_lower : (x k : Key) → is_same_key x k ≡ true → is_lower x k ≡ false
same_not_lower x k h =
    by_test (is_lower x k)
    (λ held. absurd (false≢true (sym (less_apart key_order key_total key_exact x k held) ∙ h)))
    (λ failed. failed)

same_not_higher : (x k : Key) → is_same_key x k ≡ true → is_lower k x ≡ false
same_not_higher x k h =
    by_test (is_lower k x)
    (λ held. absurd (false≢true (sym (less_back key_order key_total key_exact k x held) ∙ h)))
    (λ failed. failed)

shown_lies : (keys : List Key) (s : ℤ) → has (start_key s) keys ≡ true → lies_between keys s ≡ true
shown_lies keys s h =
    rw (any_not (λ k. is_lower (start_key s) k) keys (start_key s) (same_not_lower (start_key s)) h, any_not (λ k. is_lower k (start_key s)) keys (start_key s) (same_not_higher (start_key s)) h) refl

key_filled : (interval : Interval) (keys : List Key) (x : Key) → Each (IsStartKey interval) keys → has x keys ≡ true → has x (filled interval keys) ≡ true
unfolding filled
key_filled interval keys x all h =
    let own = any_each (IsStartKey interval) keys x all h in
    let shown : has (start_key own.0) keys ≡ true = ap (λ k. has k keys) (sym own.1) ∙ h in
    ap (λ k. has k (filled interval keys)) own.1
    ∙ has_start (filter (lies_between keys) (starts interval)) own.0 (in_filter (lies_between keys) (starts interval) own.0 (shown_lies keys own.0 shown) (is_in (starts interval) own.0 own.2))

has_filter : (p : Key → Bool) (keys : List Key) (x : Key) → has x (filter p keys) ≡ (p x && has x keys)
has_filter p [] x = sym (and_false (p x))
  where
    and_false : (b : Bool) → (b && false) ≡ false
    and_false true = refl
    and_false false = refl
has_filter p (k ∷ keys) x =
    by_test (is_same_key x k)
    (λ held.
    let one : x ≡ k = same_is key_order key_total key_exact x k held in
    let own : p k ≡ p x = ap p (sym one) in
    by_test (p x)
    (λ yes. rw (own ∙ yes, yes, held) refl)
    (λ no. rw (own ∙ no) (has_filter p keys x ∙ ap (λ (b : Bool). b && has x keys) no ∙ sym (ap (λ (b : Bool). b && has x (k ∷ keys)) no))))
    (λ failed.
    by_test (p k)
    (λ yes. rw (yes, failed) (has_filter p keys x))
    (λ no. rw (no, failed) (has_filter p keys x)))

pub filled_shown : (interval : Interval) (keys : List Key) → Sorted (starts interval) → Rising keys → Each (IsStartKey interval) keys → keys ≡ filter (λ x. has x keys) (filled interval keys)
unfolding filled
filled_shown interval keys sorted rising all =
    one_ascending key_order key_total key_exact keys (filter (λ x. has x keys) (filled interval keys)) rising
    (rising_filter (λ x. has x keys) (filled interval keys) (rising_starts (filter (lies_between keys) (starts interval)) (sorted_filter (lies_between keys) (starts interval) sorted)))
    (λ x. sym (has_filter (λ y. has y keys) (filled interval keys) x
    ∙ by_test (has x keys)
    (λ held. ap (λ (b : Bool). has x keys && b) (key_filled interval keys x all held) ∙ and_true (has x keys))
    (λ failed. ap (λ (b : Bool). b && has x (filled interval keys)) failed ∙ sym failed)))
  where
    and_true : (b : Bool) → (b && true) ≡ b
    and_true true = refl
    and_true false = refl

-- ---- the buckets of keys put among those of starts

abbrev made : (Key → List ℕ) → Key → Bucket
made f x = record { key = x; those = f x }

none_first : (s : ℤ) (bs : List Bucket) → Each (λ (b : Bucket). is_same_key b.key (start_key s) ≡ false) bs → (first_of s bs ≡ empty s) × (left_of s bs ≡ bs)
none_first s [] h = (refl, refl)
none_first s (b ∷ bs) h = (rw h.0 refl, rw h.0 refl)

pub merged_is : (f : Key → List ℕ) (p : Key → Bool) (ws : List ℤ) → Sorted ws → ((x : Key) → p x ≡ false → f x ≡ []) → merged ws (map (made f) (filter p (map start_key ws))) ≡ map (made f) (map start_key ws)
merged_is f p [] sorted none = refl
merged_is f p (s ∷ ss) sorted none =
    by_test (p (start_key s))
    (λ held. rw (held, same_itself key_order key_total key_exact (start_key s)) (ap (λ l. made f (start_key s) ∷ l) (merged_is f p ss sorted.1 none)))
    (λ failed.
    let more : List Bucket = map (made f) (filter p (map start_key ss)) in
    let later : Each (λ k. is_same_key k (start_key s) ≡ false) (map start_key ss) = each_as (λ k. is_lower (start_key s) k ≡ true) (λ k. is_same_key k (start_key s) ≡ false) (λ k g. less_back key_order key_total key_exact (start_key s) k g) (map start_key ss) (rising_starts (s ∷ ss) sorted).0 in
    let apart : Each (λ (b : Bucket). is_same_key b.key (start_key s) ≡ false) more = each_map (λ (b : Bucket). is_same_key b.key (start_key s) ≡ false) (made f) (filter p (map start_key ss)) (each_filter (λ k. is_same_key k (start_key s) ≡ false) p (map start_key ss) later) in
    let parts = none_first s more apart in
    rw failed (ap (λ b. b ∷ merged ss (left_of s more)) (parts.0 ∙ ap (λ (l : List ℕ). let b : Bucket = record { key = start_key s; those = l } in b) (sym (none (start_key s) failed)))
    ∙ ap (λ l. made f (start_key s) ∷ merged ss l) parts.1
    ∙ ap (λ l. made f (start_key s) ∷ l) (merged_is f p ss sorted.1 none)))

merged_length : (ws : List ℤ) (bs : List Bucket) → length (merged ws bs) ≡ length ws
merged_length [] bs = refl
merged_length (s ∷ ss) bs = ap suc (merged_length ss (left_of s bs))

-- ---- of the rows

abbrev those_of : Interval → Rows → Key → List ℕ
those_of interval rows x = map index_of (filter (shows_key (date_keys interval) x) rows)

places_are : (interval : Interval) (rows : Rows) (keys : List Key) → map places_of (map (keyed (date_keys interval) rows) keys) ≡ map (made (those_of interval rows)) keys
places_are interval rows [] = refl
places_are interval rows (x ∷ keys) = ap (λ l. made (those_of interval rows) x ∷ l) (places_are interval rows keys)

keys_are : (f : Key → List ℕ) (keys : List Key) → keys_in (map (made f) keys) ≡ keys
keys_are f [] = refl
keys_are f (x ∷ keys) = ap (λ l. x ∷ l) (keys_are f keys)

not_shown : (interval : Interval) (rows : Rows) (x : Key) → has x (keys_shown (date_keys interval) rows) ≡ false → those_of interval rows x ≡ []
unfolding keys_shown
not_shown interval rows x h = none_shows (date_keys interval) rows x (sym (any_key key_order key_total key_exact x (flat_map (date_keys interval) rows)) ∙ h)

rising_shown : (interval : Interval) (rows : Rows) → Rising (keys_shown (date_keys interval) rows)
unfolding keys_shown
rising_shown interval rows = keys_ascend key_order key_total key_exact (flat_map (date_keys interval) rows)

full_is_made : (interval : Interval) (rows : Rows) → map places_of (full_list (date_keys interval) rows) ≡ map (made (those_of interval rows)) (keys_shown (date_keys interval) rows)
unfolding full_list
full_is_made interval rows = places_are interval rows (keys_shown (date_keys interval) rows)

all_behind : {A : Type 0} (bs : List (Keyed A)) → filter (is_behind None) bs ≡ bs
all_behind [] = refl
all_behind (b ∷ bs) = ap (λ l. b ∷ l) (all_behind bs)

-- a page that is shorter than it may be is the whole
short_page : {A : Type 0} (n : ℕ) (xs : List A) → length (take (n + 1) xs) ≤ n → take (n + 1) xs ≡ xs
short_page n xs h = all_taken (n + 1) xs (let cut = length-take (n + 1) xs in grind (arith, cut))

-- the page of all intervals that are shown, where it is the whole
whole_page : (interval : Interval) (rows : Rows) (bs : List Bucket) → bs ≡ map places_of (page_behind None 10_001 (full_list (date_keys interval) rows)) → length bs ≤ 10_000 → bs ≡ map (made (those_of interval rows)) (keys_shown (date_keys interval) rows)
whole_page interval rows bs e few =
    let full = full_list (date_keys interval) rows in
    let all : page_behind None 10_001 full ≡ take 10_001 full = ap (take 10_001) (all_behind full) in
    let given : bs ≡ map places_of (take 10_001 full) = e ∙ ap (map places_of) all in
    let long : length bs ≡ length (take 10_001 full) = ap length given ∙ length-map (take 10_001 full) places_of in
    given ∙ ap (map places_of) (short_page 10_000 full (omega (arith, long, few))) ∙ full_is_made interval rows

pub page_starts : (interval : Interval) (n : ℕ) (rows : Rows) (bs : List Bucket) → bs ≡ map places_of (page_behind None n (full_list (date_keys interval) rows)) → AreStarts interval bs
unfolding full_list
page_starts interval n rows bs e =
    rw e (each_map (λ (b : Bucket). IsStartKey interval b.key) places_of (page_behind None n (full_list (date_keys interval) rows))
    (each_take (λ (b : Keyed (ℕ × List FieldValue)). IsStartKey interval b.key) n (filter (is_behind None) (full_list (date_keys interval) rows))
    (each_filter (λ (b : Keyed (ℕ × List FieldValue)). IsStartKey interval b.key) (is_behind None) (full_list (date_keys interval) rows)
    (each_map (λ (b : Keyed (ℕ × List FieldValue)). IsStartKey interval b.key) (keyed (date_keys interval) rows) (keys_shown (date_keys interval) rows) (shown_starts interval rows)))))

pub plain_is : (interval : Interval) (rows : Rows) (bs : List Bucket) → bs ≡ map places_of (page_behind None 10_001 (full_list (date_keys interval) rows)) → length bs ≤ 10_000 → bs ≡ map places_of (histogram_of (date_keys interval) interval false rows)
unfolding histogram_of
plain_is interval rows bs e few =
    whole_page interval rows bs e few ∙ sym (places_are interval rows (keys_shown (date_keys interval) rows))

spread_made : (interval : Interval) (f : Key → List ℕ) (keys : List Key) → map start_key (spread interval (map (made f) keys)) ≡ filled interval keys
unfolding spread filled
spread_made interval f keys = ap (λ l. map start_key (filter (lies_between l) (starts interval))) (keys_are f keys)

merged_made : (interval : Interval) (f : Key → List ℕ) (keys : List Key) → Sorted (starts interval) → Rising keys → Each (IsStartKey interval) keys → ((x : Key) → has x keys ≡ false → f x ≡ []) → merged (spread interval (map (made f) keys)) (map (made f) keys) ≡ map (made f) (filled interval keys)
unfolding spread filled
merged_made interval f keys sorted rising all none =
    let ws : List ℤ = filter (lies_between keys) (starts interval) in
    ap (λ l. merged (filter (lies_between l) (starts interval)) (map (made f) keys)) (keys_are f keys)
    ∙ ap (λ l. merged ws (map (made f) l)) (filled_shown interval keys sorted rising all)
    ∙ merged_is f (λ x. has x keys) ws (sorted_filter (lies_between keys) (starts interval) sorted) none

pub fill_is : (interval : Interval) (rows : Rows) (bs : List Bucket) → Sorted (starts interval) → bs ≡ map places_of (page_behind None 10_001 (full_list (date_keys interval) rows)) → length bs ≤ 10_000 → merged (spread interval bs) bs ≡ map places_of (histogram_of (date_keys interval) interval true rows)
unfolding histogram_of
fill_is interval rows bs sorted e few =
    let keys = keys_shown (date_keys interval) rows in
    let f = those_of interval rows in
    ap (λ l. merged (spread interval l) l) (whole_page interval rows bs e few)
    ∙ merged_made interval f keys sorted (rising_shown interval rows) (shown_starts interval rows) (not_shown interval rows)
    ∙ sym (places_are interval rows (filled interval keys))

pub spread_long : (interval : Interval) (rows : Rows) (bs : List Bucket) → bs ≡ map places_of (page_behind None 10_001 (full_list (date_keys interval) rows)) → length bs ≤ 10_000 → length (spread interval bs) ≡ length (histogram_of (date_keys interval) interval true rows)
unfolding histogram_of
spread_long interval rows bs e few =
    let keys = keys_shown (date_keys interval) rows in
    let f = those_of interval rows in
    ap (λ l. length (spread interval l)) (whole_page interval rows bs e few)
    ∙ sym (length-map (spread interval (map (made f) keys)) start_key)
    ∙ ap length (spread_made interval f keys)
    ∙ sym (length-map (filled interval keys) (keyed (date_keys interval) rows))

keys_fewer : (interval : Interval) (keys : List Key) → Sorted (starts interval) → Rising keys → Each (IsStartKey interval) keys → length keys ≤ length (filled interval keys)
keys_fewer interval keys sorted rising all =
    let same = ap length (filled_shown interval keys sorted rising all) in
    let cut = fewer (λ x. has x keys) (filled interval keys) in
    omega (arith, same, cut)

pub too_many : (interval : Interval) (fill : Bool) (rows : Rows) (bs : List Bucket) → Sorted (starts interval) → bs ≡ map places_of (page_behind None 10_001 (full_list (date_keys interval) rows)) → 10_000 < length bs → 10_000 < length (histogram_of (date_keys interval) interval fill rows)
unfolding histogram_of
too_many interval fill rows bs sorted e many =
    let keys = keys_shown (date_keys interval) rows in
    let full = full_list (date_keys interval) rows in
    let given : bs ≡ map places_of (take 10_001 full) = e ∙ ap (λ l. map places_of (take 10_001 l)) (all_behind full) in
    let long : length bs ≡ length (take 10_001 full) = ap length given ∙ length-map (take 10_001 full) places_of in
    let cut = length-take 10_001 full in
    let enough : 10_000 < length full = grind (arith, long, cut, many) in
    let count : length full ≡ length keys = sym (length-map full places_of) ∙ ap length (full_is_made interval rows) ∙ length-map keys (made (those_of interval rows)) in
    by_fill fill (omega (arith, enough, count))
  where
    by_fill : (fill : Bool) → 10_000 < length (keys_shown (date_keys interval) rows) → 10_000 < length (map (keyed (date_keys interval) rows) (cond fill (filled interval (keys_shown (date_keys interval) rows)) (keys_shown (date_keys interval) rows)))
    by_fill true h =
        let more = keys_fewer interval (keys_shown (date_keys interval) rows) sorted (rising_shown interval rows) (shown_starts interval rows) in
        omega (arith, h, more, length-map (filled interval (keys_shown (date_keys interval) rows)) (keyed (date_keys interval) rows))
    by_fill false h = omega (arith, h, length-map (keys_shown (date_keys interval) rows) (keyed (date_keys interval) rows))

pub merged_few : (ws : List ℤ) (bs : List Bucket) (kept : List KeyPlaces) → map bucket_of kept ≡ merged ws bs → length ws ≤ 10_000 → length kept ≤ 10_000
merged_few ws bs kept e few =
    let long : length kept ≡ length ws = sym (length-map kept bucket_of) ∙ ap length e ∙ merged_length ws bs in
    omega (arith, long, few)

pub fill_cause : (interval : Interval) (fill : Bool) (rows : List (List FieldValue)) (bs : List Bucket) (e : PageRefusal) → fill ≡ true → bs ≡ map places_of (page_behind None 10_001 (full_list (date_keys interval) (enumerate_from 0 rows))) → length bs ≤ 10_000 → IsFillCause interval bs e → IsHistogramCause interval fill rows e
fill_cause interval fill rows bs TooManyBuckets filled page few h =
    let same = spread_long interval (enumerate_from 0 rows) bs page few in
    rw filled (omega (arith, same, h))
fill_cause interval fill rows bs TooManyCombinations filled page few h = h
fill_cause interval fill rows bs NoMemory filled page few h = tt
