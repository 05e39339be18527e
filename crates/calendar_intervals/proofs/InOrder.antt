-- The list of the starts: where each stands, and the last of those that aren't after a moment.
use Rattle.std.proofs.Common.{◌≡◌, ℕ, zero, suc, ◌+◌, ◌<◌, ◌≤◌, inl, inr, Bool, true, false, not, cond, List, [], ◌∷◌, ◌++◌, length, get_or, length-append, refl, sym, ◌∙◌, ap, arith, ℤ, ◌<ℤ◌, ◌≤ℤ◌, int_lt}
use Rattle.std.specs.Prelude.{Option, Some, None, Contains, filter, find}
use Rattle.std.specs.List.{last_or, AllByRecursion}
use Rattle.std.specs.List.Sorted.{IsStrictlySortedBy}
use Rattle.std.specs.Ordering.{int_cmp}
use Rattle.std.specs.declared.cmp.Ordering.TheVariants.{Less}
use Rattle.std.proofs.lemmas.Bool.{cases_order}
use Rattle.std.proofs.lemmas.Int.{ints}
use Rattle.std.proofs.lemmas.List.{places}
use Rattle.jiff_core.proofs.SignedLemmas.{signed_arith}
use Rattle.calendar_intervals.specs.Starts.{how_many, nth_start, first_starts, starts, start_of, next_of, years_end}
use Rattle.calendar_intervals.specs.declared.interval.Interval.{Interval}
use Rattle.calendar_intervals.proofs.Ordinals.{IsOrdinalOf, later_start, not_later}

-- ---- where each start stands

length-first_starts : (i : Interval) (n : ℕ) → length (first_starts i n) ≡ n
unfolding first_starts
length-first_starts i zero = refl
length-first_starts i (suc n) = omega (arith, length-append (first_starts i n) (nth_start i n ∷ []), length-first_starts i n)

get_or-first_starts : (i : Interval) (n k : ℕ) (d : ℤ) → k < n → get_or (first_starts i n) k d ≡ nth_start i k
unfolding first_starts
get_or-first_starts i zero k d h = absurd (omega arith)
get_or-first_starts i (suc n) k d h =
    let long = length-first_starts i n in
    elim (cases_order k n) [
      | inl last ↦ rw last (grind (arith, places))
      | inr (inl before) ↦ (let e : get_or (first_starts i n ++ nth_start i n ∷ []) k d ≡ get_or (first_starts i n) k d = grind (arith, places) in e ∙ get_or-first_starts i n k d before)
      | inr (inr never) ↦ absurd (omega arith)
    ]

pub is_nth : (i : Interval) (s : ℤ) → Contains (starts i) s → (k : ℕ) × (k < how_many i) × (s ≡ nth_start i k)
unfolding starts
is_nth i s h =
    let below : h.0 < how_many i = omega (arith, h.1, length-first_starts i (how_many i)) in
    (h.0, below, sym h.2 ∙ get_or-first_starts i (how_many i) h.0 s below)

pub among : (i : Interval) (k : ℕ) → k < how_many i → Contains (starts i) (nth_start i k)
unfolding starts
among i k h =
    (k, omega (arith, length-first_starts i (how_many i)), get_or-first_starts i (how_many i) k (nth_start i k) h)

-- ---- tests

is_after : (z s : ℤ) → z <ℤ s → int_lt z s ≡ true
is_after z s h = grind (arith, ints)

is_not_after : (z s : ℤ) → s ≤ℤ z → int_lt z s ≡ false
is_not_after z s h = grind (arith, ints)

-- ---- lists that grow at their end

last_or-end : {A : Type 0} (o : Option A) (xs : List A) (x : A) → last_or o (xs ++ x ∷ []) ≡ Some x
last_or-end o [] x = refl
last_or-end o (y ∷ xs) x = last_or-end (Some y) xs x

filter-end : {A : Type 0} (p : A → Bool) (xs : List A) (x : A) → filter p (xs ++ x ∷ []) ≡ filter p xs ++ cond (p x) (x ∷ []) []
filter-end p [] x = elim (p x) as (λ b. cond b (x ∷ []) [] ≡ cond b (x ∷ []) []) [ true ↦ refl | false ↦ refl ]
filter-end p (y ∷ xs) x =
    elim (p y) as (λ b. cond b (y ∷ filter p (xs ++ x ∷ [])) (filter p (xs ++ x ∷ [])) ≡ cond b (y ∷ filter p xs) (filter p xs) ++ cond (p x) (x ∷ []) []) [
      | true ↦ ap (λ l. y ∷ l) (filter-end p xs x)
      | false ↦ filter-end p xs x
    ]

nothing_more : {A : Type 0} (xs : List A) → xs ++ [] ≡ xs
nothing_more [] = refl
nothing_more (x ∷ xs) = ap (λ l. x ∷ l) (nothing_more xs)

find-end : {A : Type 0} (p : A → Bool) (xs : List A) (x : A) → find p xs ≡ None → p x ≡ true → find p (xs ++ x ∷ []) ≡ Some x
find-end p [] x none passes = rw passes refl
find-end p (y ∷ xs) x none passes =
    elim (p y) as (λ b. cond b (Some y) (find p xs) ≡ None → cond b (Some y) (find p (xs ++ x ∷ [])) ≡ Some x) [
      | true ↦ λ e. cc
      | false ↦ λ e. find-end p xs x e passes
    ] none

find-end_none : {A : Type 0} (p : A → Bool) (xs : List A) (x : A) → find p xs ≡ None → p x ≡ false → find p (xs ++ x ∷ []) ≡ None
find-end_none p [] x none fails = rw fails refl
find-end_none p (y ∷ xs) x none fails =
    elim (p y) as (λ b. cond b (Some y) (find p xs) ≡ None → cond b (Some y) (find p (xs ++ x ∷ [])) ≡ None) [
      | true ↦ λ e. cc
      | false ↦ λ e. find-end_none p xs x e fails
    ] none

find-end_found : {A : Type 0} (p : A → Bool) (xs : List A) (x y : A) → find p xs ≡ Some y → find p (xs ++ x ∷ []) ≡ Some y
find-end_found p [] x y found = cc
find-end_found p (z ∷ xs) x y found =
    elim (p z) as (λ b. cond b (Some z) (find p xs) ≡ Some y → cond b (Some z) (find p (xs ++ x ∷ [])) ≡ Some y) [
      | true ↦ λ e. e
      | false ↦ λ e. find-end_found p xs x y e
    ] found

-- ---- the last start that isn't after a moment

abbrev not_after : ℤ → ℤ → Bool
not_after z s = not (int_lt z s)

last_is : (i : Interval) (z : ℤ) (n k : ℕ) → k < n → nth_start i k ≤ℤ z → ((j : ℕ) → k < j → j < n → z <ℤ nth_start i j) → last_or None (filter (not_after z) (first_starts i n)) ≡ Some (nth_start i k)
unfolding first_starts
last_is i z zero k h from before = absurd (omega arith)
last_is i z (suc n) k h from before =
    elim (cases_order k n) [
      | inl last ↦ rw (last, filter-end (not_after z) (first_starts i n) (nth_start i n), is_not_after z (nth_start i n) (rw last at from))
          (last_or-end None (filter (not_after z) (first_starts i n)) (nth_start i n))
      | inr (inl sooner) ↦ rw (filter-end (not_after z) (first_starts i n) (nth_start i n), is_after z (nth_start i n) (before n sooner (omega arith)), nothing_more (filter (not_after z) (first_starts i n)))
          (last_is i z n k sooner from (λ j more less. before j more (omega arith)))
      | inr (inr never) ↦ absurd (omega arith)
    ]

none_is : (i : Interval) (z : ℤ) (n : ℕ) → ((j : ℕ) → j < n → z <ℤ nth_start i j) → filter (not_after z) (first_starts i n) ≡ []
unfolding first_starts
none_is i z zero after = refl
none_is i z (suc n) after =
    rw (filter-end (not_after z) (first_starts i n) (nth_start i n), is_after z (nth_start i n) (after n (omega arith)), none_is i z n (λ j h. after j (omega arith))) refl

-- ---- the first start that is after a moment

pub none_after : (i : Interval) (z : ℤ) (n : ℕ) → ((j : ℕ) → j < n → nth_start i j ≤ℤ z) → find (int_lt z) (first_starts i n) ≡ None
unfolding first_starts
none_after i z zero upto = refl
none_after i z (suc n) upto =
    find-end_none (int_lt z) (first_starts i n) (nth_start i n) (none_after i z n (λ j h. upto j (omega arith))) (is_not_after z (nth_start i n) (upto n (omega arith)))

first_after : (i : Interval) (z : ℤ) (n k : ℕ) → k < n → z <ℤ nth_start i k → ((j : ℕ) → j < k → nth_start i j ≤ℤ z) → find (int_lt z) (first_starts i n) ≡ Some (nth_start i k)
unfolding first_starts
first_after i z zero k h after upto = absurd (omega arith)
first_after i z (suc n) k h after upto =
    elim (cases_order k n) [
      | inl last ↦ rw last (find-end (int_lt z) (first_starts i n) (nth_start i n) (none_after i z n (rw last at upto)) (is_after z (nth_start i n) (rw last at after)))
      | inr (inl sooner) ↦ find-end_found (int_lt z) (first_starts i n) (nth_start i n) (nth_start i k) (first_after i z n k sooner after upto)
      | inr (inr never) ↦ absurd (omega arith)
    ]

-- ---- what `start` and `next` give

-- all starts up to that of the interval aren't after the moment, and all others are
pub upto_found : (i : Interval) (z : ℤ) (k j : ℕ) → IsOrdinalOf i z k → j ≤ k → nth_start i j ≤ℤ z
upto_found i z k j h le =
    elim (cases_order j k) [
      | inl same ↦ rw same h.from
      | inr (inl less) ↦ (let known = h.known in omega (arith, signed_arith, h.from, later_start i j k (omega arith) less))
      | inr (inr more) ↦ absurd (omega arith)
    ]

pub behind_found : (i : Interval) (z : ℤ) (k j : ℕ) → IsOrdinalOf i z k → k < j → j < how_many i → z <ℤ nth_start i j
behind_found i z k j h lt known =
    elim (cases_order (k + 1) j) [
      | inl same ↦ rw (← same) h.before
      | inr (inl less) ↦ omega (arith, signed_arith, h.before, later_start i (k + 1) j (omega arith) less)
      | inr (inr more) ↦ absurd (omega arith)
    ]

pub start_is : (i : Interval) (z : ℤ) (k : ℕ) → IsOrdinalOf i z k → z <ℤ years_end → start_of i z ≡ Some (nth_start i k)
unfolding start_of starts
start_is i z k h within =
    rw (is_after z years_end within) (last_is i z (how_many i) k h.known h.from (λ j lt known. behind_found i z k j h lt known))

pub no_start_before : (i : Interval) (z : ℤ) → ((j : ℕ) → j < how_many i → z <ℤ nth_start i j) → start_of i z ≡ None
unfolding start_of starts
no_start_before i z h =
    elim (int_lt z years_end) as (λ b. cond b (last_or None (filter (not_after z) (first_starts i (how_many i)))) None ≡ None) [
      | true ↦ rw (none_is i z (how_many i) h) refl
      | false ↦ refl
    ]

pub no_start_behind : (i : Interval) (z : ℤ) → years_end ≤ℤ z → start_of i z ≡ None
unfolding start_of
no_start_behind i z h = rw (is_not_after z years_end h) refl

pub next_is : (i : Interval) (z : ℤ) (k : ℕ) → IsOrdinalOf i z k → k + 1 < how_many i → next_of i z ≡ Some (nth_start i (k + 1))
unfolding next_of starts
next_is i z k h known =
    first_after i z (how_many i) (k + 1) known h.before (λ j lt. upto_found i z k j h (omega arith))

pub next_is_first : (i : Interval) (z : ℤ) → 0 < how_many i → z <ℤ nth_start i 0 → next_of i z ≡ Some (nth_start i 0)
unfolding next_of starts
next_is_first i z some h = first_after i z (how_many i) 0 some h (λ j lt. absurd (omega arith))

pub no_next : (i : Interval) (z : ℤ) → ((j : ℕ) → j < how_many i → nth_start i j ≤ℤ z) → next_of i z ≡ None
unfolding next_of starts
no_next i z h = none_after i z (how_many i) h

-- ---- the starts ascend

less_is : (a b : ℤ) → a <ℤ b → int_cmp a b ≡ Less
less_is a b h = grind (arith, ints)

all_end : {A : Type 0} (P : A → Type 0) (xs : List A) (x : A) → AllByRecursion P xs → P x → AllByRecursion P (xs ++ x ∷ [])
all_end P [] x h p = (p, tt)
all_end P (y ∷ xs) x h p = (h.0, all_end P xs x h.1 p)

sorted_end : (xs : List ℤ) (x : ℤ) → IsStrictlySortedBy int_cmp xs → AllByRecursion (λ y. int_cmp y x ≡ Less) xs → IsStrictlySortedBy int_cmp (xs ++ x ∷ [])
unfolding IsStrictlySortedBy
sorted_end [] x h below = (tt, tt)
sorted_end (y ∷ xs) x h below = (all_end (λ z. int_cmp y z ≡ Less) xs x h.0 below.0, sorted_end xs x h.1 below.1)

below_end : (i : Interval) (n k : ℕ) → n ≤ k → k < how_many i → AllByRecursion (λ y. int_cmp y (nth_start i k) ≡ Less) (first_starts i n)
unfolding first_starts
below_end i zero k le known = tt
below_end i (suc n) k le known =
    all_end (λ y. int_cmp y (nth_start i k) ≡ Less) (first_starts i n) (nth_start i n) (below_end i n k (omega arith) known) (less_is (nth_start i n) (nth_start i k) (later_start i n k (omega arith) (omega arith)))

first_starts_ascend : (i : Interval) (n : ℕ) → n ≤ how_many i → IsStrictlySortedBy int_cmp (first_starts i n)
unfolding first_starts IsStrictlySortedBy
first_starts_ascend i zero h = tt
first_starts_ascend i (suc n) h =
    sorted_end (first_starts i n) (nth_start i n) (first_starts_ascend i n (omega arith)) (below_end i n n (omega arith) (omega arith))

pub ascend : (i : Interval) → IsStrictlySortedBy int_cmp (starts i)
unfolding starts
ascend i = first_starts_ascend i (how_many i) (omega arith)

-- ---- what holds of all starts

pub greatest : (i : Interval) (z : ℤ) (k : ℕ) → IsOrdinalOf i z k → (t : ℤ) → Contains (starts i) t → t ≤ℤ z → t ≤ℤ nth_start i k
greatest i z k h t in_it le =
    let found = is_nth i t in_it in
    let j = found.0 in
    let is : t ≡ nth_start i j = found.2 in
    rw is (not_later i z k j h found.1 (rw is at le))

pub least : (i : Interval) (z : ℤ) (k : ℕ) → k < how_many i → ((j : ℕ) → j < k → nth_start i j ≤ℤ z) → (t : ℤ) → Contains (starts i) t → z <ℤ t → nth_start i k ≤ℤ t
least i z k known upto t in_it lt =
    let found = is_nth i t in_it in
    let j = found.0 in
    let is : t ≡ nth_start i j = found.2 in
    rw is (elim (cases_order k j) [
      | inl same ↦ rw same (omega (arith, signed_arith))
      | inr (inl less) ↦ omega (arith, signed_arith, later_start i k j known less)
      | inr (inr more) ↦ absurd (omega (arith, signed_arith, upto j more, rw is at lt))
    ])
