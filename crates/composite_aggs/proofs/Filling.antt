-- The steps of filling a histogram: where it begins and ends, the walk over its starts, and the buckets that are taken.
use Rattle.std.proofs.Common.{◌≡◌, ℕ, zero, suc, ◌+◌, ◌-◌, ◌<◌, ◌≤◌, inl, inr, Bool, true, false, not, ◌&&◌, ◌||◌, cond, List, [], ◌∷◌, ◌++◌, map, filter, take, drop, reverse, get_or, length, length-append, refl, sym, ap, ◌∙◌, append_assoc, arith, ℤ, ◌<ℤ◌, ◌≤ℤ◌, int_lt}
use Rattle.std.specs.Prelude.{Option, Some, None, slice_get, Contains, Result, Ok, Err, IfOk, OnOk, IfErr}
use Rattle.std.specs.List.{find, list_any}
use Rattle.std.specs.List.Sorted.{IsStrictlySortedBy}
use Rattle.std.specs.Ordering.{int_cmp}
use Rattle.std.specs.declared.cmp.Ordering.TheVariants.{Less}
use Rattle.std.proofs.lemmas.Bool.{false≢true}
use Rattle.std.proofs.lemmas.Int.{ints}
use Rattle.std.proofs.lemmas.List.{length-map, reverse-append}
use Rattle.tree_objects.specs.declared.field_value.FieldValue.{FieldValue}
use Rattle.calendar_intervals.specs.Starts.{starts, next_of}
use Rattle.calendar_intervals.specs.declared.interval.Interval.{Interval}
use Rattle.composite_aggs.specs.Composite.{Keyed, key_order, is_lower, is_same_key, start_key, lies_between}
use Rattle.composite_aggs.specs.Spread.{AreStarts, IsFillCause, IsStartKey, IsWalkCause, empty, first_number, first_of, is_first, key_in, keys_in, left_of, lies_from_to, merged, number_at, spread, starts_from_to}
use Rattle.composite_aggs.specs.Kept.{Ascends, bucket_of}
use Rattle.composite_aggs.specs.declared.kept.KeyPlaces.{KeyPlaces}
use Rattle.composite_aggs.specs.declared.refusal.PageRefusal.{PageRefusal}
use Rattle.composite_aggs.specs.declared.refusal.PageRefusal.TheVariants.{TooManyBuckets, TooManyCombinations, NoMemory}
use Rattle.composite_aggs.proofs.Spread.{IsIn, contains, is_in, one_more, only_first, sorted_is}
use Rattle.composite_aggs.proofs.Gathered.{lower_is}
use Rattle.composite_aggs.proofs.Histograms.{each_map, same_filter, start_less, not_less}
use Rattle.query_ast.proofs.Keys.{Ascend, less_on, less_once, same_itself, less_apart}
use Rattle.query_ast.proofs.Elements.{Each, by_test, each_as}
use Rattle.composite_aggs.proofs.Lists.{nothing_more}
use Rattle.composite_aggs.proofs.Steps.{drop_at}
use Rattle.composite_aggs.proofs.Values.{key_total, key_exact}

abbrev Key : Type 0
Key = List FieldValue

abbrev Bucket : Type 0
Bucket = Keyed ℕ

abbrev Kept : Type 0
Kept = List KeyPlaces

abbrev Rising : List Key → Type 0
Rising = Ascend key_order key_total key_exact

-- ---- the numbers of keys

none_some : {A : Type 0} (x : A) → None ≡ Some x → ⊥
none_some x e = cc

some_is : {A : Type 0} (x y : A) → Some x ≡ Some y → x ≡ y
some_is x y e = cc

pub number_there : (kept : Kept) (k : ℕ) (d : KeyPlaces) → k < length kept → first_number (get_or kept k d).key ≡ number_at k (keys_in (map bucket_of kept))
number_there [] k d h = absurd (omega arith)
number_there (b ∷ kept) zero d h = refl
number_there (b ∷ kept) (suc k) d h = number_there kept k d (omega arith)

pub number_past : (kept : Kept) (k : ℕ) → length kept ≤ k → None ≡ number_at k (keys_in (map bucket_of kept))
number_past [] k h = refl
number_past (b ∷ kept) zero h = absurd (omega arith)
number_past (b ∷ kept) (suc k) h = number_past kept k (omega arith)

number_is : (interval : Interval) (keys : List Key) (k : ℕ) (n : ℤ) (d : Key) → Each (IsStartKey interval) keys → number_at k keys ≡ Some n → (k < length keys) × (get_or keys k d ≡ start_key n) × Contains (starts interval) n
number_is interval [] k n d h e = absurd (none_some n e)
number_is interval (x ∷ keys) zero n d h e =
    let number : first_number x ≡ Some h.0.0 = ap first_number h.0.1 in
    let same : h.0.0 ≡ n = some_is h.0.0 n (sym number ∙ e) in
    (omega arith, h.0.1 ∙ ap start_key same, rw (← same) h.0.2)
number_is interval (x ∷ keys) (suc k) n d h e =
    let rest = number_is interval keys k n d h.1 e in
    let less = rest.0 in
    (omega (arith, less), rest.1, rest.2)

number_some : (interval : Interval) (keys : List Key) (k : ℕ) → Each (IsStartKey interval) keys → k < length keys → number_at k keys ≡ None → ⊥
number_some interval [] k h lt e = absurd (omega arith)
number_some interval (x ∷ keys) zero h lt e = none_some h.0.0 (sym e ∙ ap first_number h.0.1)
number_some interval (x ∷ keys) (suc k) h lt e = number_some interval keys k h.1 (omega arith) e

starts_of : (interval : Interval) (bs : List Bucket) → AreStarts interval bs → Each (IsStartKey interval) (keys_in bs)
starts_of interval bs h = each_map (IsStartKey interval) key_in bs h

rising_of : (bs : List Bucket) → Ascends bs → Rising (keys_in bs)
rising_of [] h = tt
rising_of (b ∷ bs) h =
    (each_map (λ y. is_lower b.key y ≡ true) key_in bs (each_as (λ (c : Bucket). key_order b.key c.key ≡ Less) (λ (c : Bucket). is_lower b.key c.key ≡ true) (λ c e. lower_is b.key c.key e) bs h.0), rising_of bs h.1)

-- ---- the first key is the least, and the last is the greatest

each_at : (P : Key → Type 0) (xs : List Key) (k : ℕ) (d v : Key) → Each P xs → k < length xs → get_or xs k d ≡ v → P v
each_at P [] k d v h lt e = absurd (omega arith)
each_at P (x ∷ xs) zero d v h lt e = rw (← e) h.0
each_at P (x ∷ xs) (suc k) d v h lt e = each_at P xs k d v h.1 (omega arith) e

none_any : (t : Key → Bool) (keys : List Key) → Each (λ k. t k ≡ true) keys → list_any (λ k. not (t k)) keys ≡ false
none_any t [] h = refl
none_any t (k ∷ keys) h = rw h.0 (none_any t keys h.1)

first_most : (x first : Key) (keys : List Key) → Rising (first ∷ keys) → list_any (λ k. not (is_lower x k)) (first ∷ keys) ≡ not (is_lower x first)
first_most x first keys r =
    by_test (is_lower x first)
    (λ held. rw held (none_any (λ k. is_lower x k) keys (each_as (λ k. is_lower first k ≡ true) (λ k. is_lower x k ≡ true) (λ k g. less_on key_order key_total key_exact x first k held g) keys r.0)))
    (λ failed. rw failed refl)

or_none : (b : Bool) → (b || false) ≡ b
or_none true = refl
or_none false = refl

not_on : (y last x : Key) → is_lower y last ≡ true → is_lower y x ≡ false → is_lower last x ≡ false
not_on y last x h failed =
    by_test (is_lower last x)
    (λ held. absurd (false≢true (sym failed ∙ less_on key_order key_total key_exact y last x h held)))
    (λ none. none)

last_most : (x : Key) (keys : List Key) (k : ℕ) (d last : Key) → Rising keys → length keys ≡ k + 1 → get_or keys k d ≡ last → list_any (λ y. not (is_lower y x)) keys ≡ not (is_lower last x)
last_most x [] k d last r l e = absurd (omega arith)
last_most x (y ∷ []) zero d last r l e = or_none (not (is_lower y x)) ∙ ap (λ z. not (is_lower z x)) e
last_most x (y ∷ []) (suc k) d last r l e = absurd (omega arith)
last_most x (y ∷ z ∷ keys) zero d last r l e = absurd (omega arith)
last_most x (y ∷ z ∷ keys) (suc k) d last r l e =
    let rest : list_any (λ y. not (is_lower y x)) (z ∷ keys) ≡ not (is_lower last x) = last_most x (z ∷ keys) k d last r.1 (omega arith) e in
    let above : is_lower y last ≡ true = each_at (λ v. is_lower y v ≡ true) (z ∷ keys) k d last r.0 (omega arith) e in
    by_test (is_lower y x)
    (λ held. ap (λ (b : Bool). not b || list_any (λ y. not (is_lower y x)) (z ∷ keys)) held ∙ rest)
    (λ failed. ap (λ (b : Bool). not b || list_any (λ y. not (is_lower y x)) (z ∷ keys)) failed ∙ sym (ap not (not_on y last x above failed)))

not_itself : (x : Key) → is_lower x x ≡ false
not_itself x =
    by_test (is_lower x x)
    (λ held. absurd (false≢true (sym (less_apart key_order key_total key_exact x x held) ∙ same_itself key_order key_total key_exact x)))
    (λ none. none)

last_not_before : (keys : List Key) (first : Key) (k : ℕ) (d last : Key) → Rising (first ∷ keys) → k < length (first ∷ keys) → get_or (first ∷ keys) k d ≡ last → is_lower last first ≡ false
last_not_before keys first zero d last r lt e = rw (← e) (not_itself first)
last_not_before keys first (suc k) d last r lt e =
    less_once key_order key_total key_exact first last (each_at (λ v. is_lower first v ≡ true) keys k d last r.0 (omega arith) e)

pub span : (interval : Interval) (bs : List Bucket) (k : ℕ) (a z : ℤ) → Ascends bs → AreStarts interval bs → k ≡ length bs - 1 → number_at 0 (keys_in bs) ≡ Some a → number_at k (keys_in bs) ≡ Some z → Contains (starts interval) a × Contains (starts interval) z × (a ≤ℤ z) × (spread interval bs ≡ starts_from_to interval a z)
unfolding spread starts_from_to
span interval [] k a z ascends all at e g = absurd (none_some a e)
span interval (b ∷ bs) k a z ascends all at e g =
    let keys : List Key = keys_in (b ∷ bs) in
    let rising : Rising keys = rising_of (b ∷ bs) ascends in
    let first = number_is interval keys 0 a [] (starts_of interval (b ∷ bs) all) e in
    let last = number_is interval keys k z [] (starts_of interval (b ∷ bs) all) g in
    let first_is : b.key ≡ start_key a = first.1 in
    let within = last.0 in
    let long : length keys ≡ k + 1 = omega (arith, length-map (b ∷ bs) key_in, at) in
    let after : is_lower (start_key z) (start_key a) ≡ false = ap (is_lower (start_key z)) (sym first_is) ∙ last_not_before (keys_in bs) b.key k [] (start_key z) rising within last.1 in
    let order : a ≤ℤ z = not_less z a (sym (start_less z a) ∙ after) in
    let lies : (s : ℤ) → lies_between keys s ≡ lies_from_to a z s = λ s.
    (let left : list_any (λ y. not (is_lower (start_key s) y)) keys ≡ not (int_lt s a) = first_most (start_key s) b.key (keys_in bs) rising ∙ ap (λ y. not (is_lower (start_key s) y)) first_is ∙ ap not (start_less s a) in
    let right : list_any (λ y. not (is_lower y (start_key s))) keys ≡ not (int_lt z s) = last_most (start_key s) keys k [] (start_key z) rising long last.1 ∙ ap not (start_less z s) in
    ap (λ (t : Bool). t && list_any (λ y. not (is_lower y (start_key s))) keys) left ∙ ap (λ (t : Bool). not (int_lt s a) && t) right) in
    (first.2, last.2, order, same_filter (lies_between keys) (lies_from_to a z) (starts interval) lies)

none_spread : (interval : Interval) → spread interval [] ≡ []
unfolding spread
none_spread interval = none_of (starts interval)
  where
    none_of : (xs : List ℤ) → filter (lies_between []) xs ≡ []
    none_of [] = refl
    none_of (x ∷ xs) = none_of xs

-- there is no bucket
pub no_first : (interval : Interval) (bs : List Bucket) → AreStarts interval bs → number_at 0 (keys_in bs) ≡ None → (bs ≡ merged (spread interval bs) bs) × (length (spread interval bs) ≤ 10_000)
no_first interval [] all e = (ap (λ l. merged l []) (sym (none_spread interval)), (let none = ap length (none_spread interval) in omega (arith, none)))
no_first interval (b ∷ bs) all e = absurd (number_some interval (keys_in (b ∷ bs)) 0 (starts_of interval (b ∷ bs) all) (omega arith) e)

pub no_last : (interval : Interval) (bs : List Bucket) (k : ℕ) (a : ℤ) → AreStarts interval bs → k ≡ length bs - 1 → number_at 0 (keys_in bs) ≡ Some a → number_at k (keys_in bs) ≡ None → ⊥
no_last interval [] k a all at e g = none_some a e
no_last interval (b ∷ bs) k a all at e g = number_some interval (keys_in (b ∷ bs)) k (starts_of interval (b ∷ bs) all) (omega (arith, length-map (b ∷ bs) key_in, at)) g

-- ---- the walk over the starts

pub walk_begins : (interval : Interval) (low : ℤ) → IsStrictlySortedBy int_cmp (starts interval) → Contains (starts interval) low → low ∷ [] ≡ starts_from_to interval low low
unfolding starts_from_to
walk_begins interval low sorted h = sym (only_first low (starts interval) (sorted_is (starts interval) sorted) (is_in (starts interval) low h))

pub walk_goes_on : (interval : Interval) (low at n : ℤ) (walk more : List ℤ) → IsStrictlySortedBy int_cmp (starts interval) → low ≤ℤ at → walk ++ at ∷ [] ≡ starts_from_to interval low at → more ≡ walk ++ at ∷ [] → Contains (starts interval) n → at <ℤ n → ((t : ℤ) → Contains (starts interval) t → at <ℤ t → n ≤ℤ t) → more ++ n ∷ [] ≡ starts_from_to interval low n
unfolding starts_from_to
walk_goes_on interval low at n walk more sorted first so is there next least =
    ap (λ l. l ++ n ∷ []) (is ∙ so)
    ∙ sym (one_more low at n (starts interval) (sorted_is (starts interval) sorted) first next (is_in (starts interval) n there) (λ t h g. least t (contains (starts interval) t h) g))

found : (p : ℤ → Bool) (xs : List ℤ) (t : ℤ) → IsIn t xs → p t ≡ true → find p xs ≡ None → ⊥
found p [] t m h e = m
found p (x ∷ xs) t (inl is) h e = none_some x (sym e ∙ ap (λ (b : Bool). cond b (Some x) (find p xs)) (ap p (sym is) ∙ h))
found p (x ∷ xs) t (inr there) h e =
    by_test (p x)
    (λ held. none_some x (sym e ∙ ap (λ (b : Bool). cond b (Some x) (find p xs)) held))
    (λ failed. found p xs t there h (sym (ap (λ (b : Bool). cond b (Some x) (find p xs)) failed) ∙ e))

is_less : (a b : ℤ) → a <ℤ b → int_lt a b ≡ true
is_less a b h = grind (arith, ints)

pub no_next : (interval : Interval) (at t : ℤ) → Contains (starts interval) t → at <ℤ t → next_of interval at ≡ None → ⊥
unfolding next_of
no_next interval at t h lt e = found (int_lt at) (starts interval) t (is_in (starts interval) t h) (is_less at t lt) e

no_more : (p q : ℤ → Bool) (xs : List ℤ) → ((x : ℤ) → p x ≡ true → q x ≡ true) → length (filter p xs) ≤ length (filter q xs)
no_more p q [] h = omega arith
no_more p q (x ∷ xs) h =
    let rest = no_more p q xs h in
    by_test (p x)
    (λ held. rw (held, h x held) (omega (arith, rest)))
    (λ failed. by_test (q x) (λ more. rw (failed, more) (omega (arith, rest))) (λ none. rw (failed, none) rest))

longer : (low at high s : ℤ) → at ≤ℤ high → lies_from_to low at s ≡ true → lies_from_to low high s ≡ true
longer low at high s h e = grind (arith, ints)

pub walk_too_long : (interval : Interval) (low at high : ℤ) (walk : List ℤ) → walk ++ at ∷ [] ≡ starts_from_to interval low at → at ≤ℤ high → 10_000 ≤ length walk → 10_000 < length (starts_from_to interval low high)
unfolding starts_from_to
walk_too_long interval low at high walk so h long =
    let count = length-append walk (at ∷ []) in
    let same = ap length so in
    let more = no_more (lies_from_to low at) (lies_from_to low high) (starts interval) (λ s e. longer low at high s h e) in
    omega (arith, count, same, more, long)

-- ---- the buckets that are taken

pub among_step : (walk : List ℤ) (i : ℕ) (d : ℤ) (done more : List Bucket) (b : Bucket) (bs left total : List Bucket) → i < length walk → done ++ merged (drop i walk) bs ≡ total → b ≡ first_of (get_or walk i d) bs → left ≡ left_of (get_or walk i d) bs → more ≡ done ++ b ∷ [] → more ++ merged (drop (i + 1) walk) left ≡ total
among_step walk i d done more b bs left total lt so first rest is =
    ap (λ l. l ++ merged (drop (i + 1) walk) left) is
    ∙ append_assoc done (b ∷ []) (merged (drop (i + 1) walk) left)
    ∙ ap (λ c. done ++ c ∷ merged (drop (i + 1) walk) left) first
    ∙ ap (λ l. done ++ first_of (get_or walk i d) bs ∷ merged (drop (i + 1) walk) l) rest
    ∙ sym (ap (λ l. done ++ merged l bs) (drop_at walk i d lt))
    ∙ so

pub among_done : (walk : List ℤ) (i : ℕ) (done bs total : List Bucket) → length walk ≤ i → done ++ merged (drop i walk) bs ≡ total → done ≡ total
among_done walk i done bs total h so = sym (nothing_more done) ∙ sym (ap (λ l. done ++ merged l bs) (dropped walk i h)) ∙ so
  where
    dropped : (xs : List ℤ) (i : ℕ) → length xs ≤ i → drop i xs ≡ []
    dropped [] zero h = refl
    dropped [] (suc i) h = refl
    dropped (x ∷ xs) zero h = absurd (omega arith)
    dropped (x ∷ xs) (suc i) h = dropped xs i (omega arith)

last_first : (olds news : Kept) (b : KeyPlaces) → olds ≡ news ++ b ∷ [] → map bucket_of (reverse olds) ≡ bucket_of b ∷ map bucket_of (reverse news)
last_first olds news b e = ap (λ l. map bucket_of (reverse l)) e ∙ ap (map bucket_of) (reverse-append news (b ∷ []))

pub taken : (s : ℤ) (olds news : Kept) (b : KeyPlaces) → olds ≡ news ++ b ∷ [] → is_first s (map bucket_of (reverse olds)) ≡ true → (bucket_of b ≡ first_of s (map bucket_of (reverse olds))) × (map bucket_of (reverse news) ≡ left_of s (map bucket_of (reverse olds)))
taken s olds news b e held =
    let front = last_first olds news b e in
    let same : is_same_key b.key (start_key s) ≡ true = sym (ap (is_first s) front) ∙ held in (
      sym (ap (first_of s) front ∙ ap (λ (t : Bool). cond t (bucket_of b) (empty s)) same),
      sym (ap (left_of s) front ∙ ap (λ (t : Bool). cond t (map bucket_of (reverse news)) (bucket_of b ∷ map bucket_of (reverse news))) same),
    )

pub not_taken : (s : ℤ) (bs : List Bucket) → is_first s bs ≡ false → (first_of s bs ≡ empty s) × (left_of s bs ≡ bs)
not_taken s [] e = (refl, refl)
not_taken s (b ∷ bs) e = (ap (λ (t : Bool). cond t b (empty s)) e, ap (λ (t : Bool). cond t bs (b ∷ bs)) e)

last_split : {A : Type 0} (xs : List A) (k : ℕ) (x : A) → length xs ≡ k + 1 → slice_get xs k ≡ Some x → xs ≡ take k xs ++ x ∷ []
last_split [] k x l e = absurd (omega arith)
last_split (y ∷ []) zero x l e = ap (λ z. z ∷ []) (some_is y x e)
last_split (y ∷ []) (suc k) x l e = absurd (omega arith)
last_split (y ∷ z ∷ ys) zero x l e = absurd (omega arith)
last_split (y ∷ z ∷ ys) (suc k) x l e = ap (λ m. y ∷ m) (last_split (z ∷ ys) k x (omega arith) e)

pub last_is : (kept : Kept) (s : ℤ) (b : KeyPlaces) → slice_get kept (length kept - 1) ≡ Some b → is_same_key b.key (start_key s) ≡ is_first s (map bucket_of (reverse kept))
last_is [] s b e = absurd (none_some b e)
last_is (k ∷ kept) s b e =
    let long : length (k ∷ kept) ≡ (length (k ∷ kept) - 1) + 1 = omega arith in
    sym (ap (is_first s) (last_first (k ∷ kept) (take (length (k ∷ kept) - 1) (k ∷ kept)) b (last_split (k ∷ kept) (length (k ∷ kept) - 1) b long e)))

pub last_none : (kept : Kept) (s : ℤ) → slice_get kept (length kept - 1) ≡ None → false ≡ is_first s (map bucket_of (reverse kept))
last_none [] s e = refl
last_none (k ∷ kept) s e = absurd (there (k ∷ kept) (length (k ∷ kept) - 1) (omega arith) e)
  where
    there : (xs : Kept) (i : ℕ) → i < length xs → slice_get xs i ≡ None → ⊥
    there [] i h e = absurd (omega arith)
    there (x ∷ xs) zero h e = none_some x (sym e)
    there (x ∷ xs) (suc i) h e = there xs i (omega arith) e

pub number_here : (kept : Kept) (k : ℕ) (d : KeyPlaces) (own : Key) (r : Option ℤ) → k < length kept → own ≡ (get_or kept k d).key → r ≡ first_number own → r ≡ number_at k (keys_in (map bucket_of kept))
number_here kept k d own r h is e = e ∙ ap first_number is ∙ number_there kept k d h

pub at_end : (interval : Interval) (low at high : ℤ) (walk more : List ℤ) → walk ++ at ∷ [] ≡ starts_from_to interval low at → more ≡ walk ++ at ∷ [] → at ≤ℤ high → high ≤ℤ at → more ≡ starts_from_to interval low high
at_end interval low at high walk more so is h g =
    let same : at ≡ high = grind (arith, ints) in
    is ∙ so ∙ ap (starts_from_to interval low) same

-- ---- of outcomes

pub if_ok : {T E : Type 0} {P Q : T → Type 0} (r : Result T E) → ((x : T) → P x → Q x) → IfOk r P → IfOk r Q
if_ok (Ok x) f h = f x h
if_ok (Err e) f h = tt

pub if_ok_both : {T E : Type 0} {P Q : T → Type 0} {M : Type 0} (r : Result T E) → ((x : T) → P x → M → Q x) → IfOk r P → OnOk r M → IfOk r Q
if_ok_both (Ok x) f h g = f x h g
if_ok_both (Err e) f h g = tt

pub if_err : {T E : Type 0} {P Q : E → Type 0} (r : Result T E) → ((e : E) → P e → Q e) → IfErr r P → IfErr r Q
if_err (Ok x) f h = tt
if_err (Err e) f h = f e h

-- ---- from the first bucket to the last

pub spanned : (interval : Interval) (kept seen again : Kept) (k : ℕ) (a z : ℤ) → Ascends (map bucket_of kept) → AreStarts interval (map bucket_of kept) → seen ≡ kept → again ≡ kept → k ≡ length kept - 1 → Some a ≡ number_at 0 (keys_in (map bucket_of seen)) → Some z ≡ number_at k (keys_in (map bucket_of again)) → Contains (starts interval) a × Contains (starts interval) z × (a ≤ℤ z) × (spread interval (map bucket_of kept) ≡ starts_from_to interval a z)
spanned interval kept seen again k a z ascends all is same at e g =
    span interval (map bucket_of kept) k a z ascends all (at ∙ ap (λ n. n - 1) (sym (length-map kept bucket_of)))
    (sym (e ∙ ap (λ l. number_at 0 (keys_in (map bucket_of l))) is))
    (sym (g ∙ ap (λ l. number_at k (keys_in (map bucket_of l))) same))

pub walk_cause : (interval : Interval) (a z : ℤ) (bs : List Bucket) (e : PageRefusal) → spread interval bs ≡ starts_from_to interval a z → IsWalkCause interval a z e → IsFillCause interval bs e
walk_cause interval a z bs TooManyBuckets is h = let same = ap length is in omega (arith, same, h)
walk_cause interval a z bs TooManyCombinations is h = h
walk_cause interval a z bs NoMemory is h = tt

pub no_first_in : (interval : Interval) (kept seen : Kept) → AreStarts interval (map bucket_of kept) → seen ≡ kept → None ≡ number_at 0 (keys_in (map bucket_of seen)) → (map bucket_of kept ≡ merged (spread interval (map bucket_of kept)) (map bucket_of kept)) × (length (spread interval (map bucket_of kept)) ≤ 10_000)
no_first_in interval kept seen all is e = no_first interval (map bucket_of kept) all (sym (e ∙ ap (λ l. number_at 0 (keys_in (map bucket_of l))) is))

pub no_last_in : (interval : Interval) (kept seen again : Kept) (k : ℕ) (a : ℤ) → AreStarts interval (map bucket_of kept) → seen ≡ kept → again ≡ kept → k ≡ length kept - 1 → Some a ≡ number_at 0 (keys_in (map bucket_of seen)) → None ≡ number_at k (keys_in (map bucket_of again)) → ⊥
no_last_in interval kept seen again k a all is same at e g =
    no_last interval (map bucket_of kept) k a all (at ∙ ap (λ n. n - 1) (sym (length-map kept bucket_of)))
    (sym (e ∙ ap (λ l. number_at 0 (keys_in (map bucket_of l))) is))
    (sym (g ∙ ap (λ l. number_at k (keys_in (map bucket_of l))) same))
