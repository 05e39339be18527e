-- The next and the previous place, from what a search by index finds.
use Rattle.std.proofs.Common.{◌≡◌, ℕ, zero, suc, ◌+◌, ◌-◌, ◌<◌, ◌≤◌, ◌⊎◌, is_some, subst, Bool, true, false, cond, List, [], ◌∷◌, length, get_or, take, drop, map, Some, None, refl, sym, ap, ◌∙◌, inl, inr, arith}
use Rattle.std.specs.List.{position_from}
use Rattle.std.specs.Option.{option_or}
use Rattle.std.proofs.lemmas.List.{get_or-drop, get_or-take, length-drop, length-take, drop-map, take-map}
use Rattle.std.proofs.lemmas.Bool.{cases_Bool, cases_lt, true≢false}
use Rattle.block_bits.proofs.Above.{split_option}
use Rattle.block_bits.specs.Places.{next_place, last_place, previous_place}

-- the first place that passes, in a list that begins at place `start`
position_from-first : {X : Type 0} (test : X → Bool) (start : ℕ) (xs : List X) (at : ℕ) (d : X) → at < length xs → ((k : ℕ) → k < at → test (get_or xs k d) ≡ false) → test (get_or xs at d) ≡ true
    → position_from test start xs ≡ Some (start + at)
position_from-first test start [] at d h before here = absurd (omega arith)
position_from-first test start (x ∷ xs) zero d h before here = rw here (ap Some (omega arith))
position_from-first test start (x ∷ xs) (suc at) d h before here =
    rw (before 0 (omega arith)) (position_from-first test (start + 1) xs at d (omega arith) (λ k l. before (suc k) (omega arith)) here ∙ ap Some (omega arith))

position_from-none : {X : Type 0} (test : X → Bool) (start : ℕ) (xs : List X) (d : X) → ((k : ℕ) → k < length xs → test (get_or xs k d) ≡ false) → position_from test start xs ≡ None
position_from-none test start [] d none = refl
position_from-none test start (x ∷ xs) d none =
    rw (none 0 (omega arith)) (position_from-none test (start + 1) xs d (λ k h. none (suc k) (omega arith)))

pub next_place-first : {X : Type 0} (test : X → Bool) (from at : ℕ) (xs : List X) (d : X) → from ≤ at → at < length xs → ((k : ℕ) → from ≤ k → k < at → test (get_or xs k d) ≡ false) → test (get_or xs at d) ≡ true
    → next_place test from xs ≡ Some at
next_place-first test from at xs d low high before here =
    let place : from + (at - from) ≡ at = omega arith in
    position_from-first test from (drop from xs) (at - from) d (omega (arith, length-drop from xs))
    (λ k h. ap test (get_or-drop from xs k d) ∙ before (from + k) (omega arith) (omega arith))
    (ap test (get_or-drop from xs (at - from) d ∙ ap (λ k. get_or xs k d) place) ∙ here)
    ∙ ap Some place

pub next_place-none : {X : Type 0} (test : X → Bool) (from : ℕ) (xs : List X) (d : X) → ((k : ℕ) → from ≤ k → k < length xs → test (get_or xs k d) ≡ false) → next_place test from xs ≡ None
next_place-none test from xs d none =
    position_from-none test from (drop from xs) d (λ k h. ap test (get_or-drop from xs k d) ∙ none (from + k) (omega arith) (omega (arith, length-drop from xs)))

last_place-none : {X : Type 0} (test : X → Bool) (start : ℕ) (xs : List X) (d : X) → ((k : ℕ) → k < length xs → test (get_or xs k d) ≡ false) → last_place test start xs ≡ None
last_place-none test start [] d none = refl
last_place-none test start (x ∷ xs) d none =
    rw (last_place-none test (start + 1) xs d (λ k h. none (suc k) (omega arith)), none 0 (omega arith)) refl

last_place-last : {X : Type 0} (test : X → Bool) (start : ℕ) (xs : List X) (at : ℕ) (d : X) → at < length xs → test (get_or xs at d) ≡ true → ((k : ℕ) → at < k → k < length xs → test (get_or xs k d) ≡ false)
    → last_place test start xs ≡ Some (start + at)
last_place-last test start [] at d h here after = absurd (omega arith)
last_place-last test start (x ∷ xs) zero d h here after =
    rw (last_place-none test (start + 1) xs d (λ k l. after (suc k) (omega arith) (omega arith)), here) (ap Some (omega arith))
last_place-last test start (x ∷ xs) (suc at) d h here after =
    rw (last_place-last test (start + 1) xs at d (omega arith) here (λ k l m. after (suc k) (omega arith) (omega arith))) (ap Some (omega arith))

pub previous_place-last : {X : Type 0} (test : X → Bool) (below at : ℕ) (xs : List X) (d : X) → at < below → at < length xs → test (get_or xs at d) ≡ true → ((k : ℕ) → at < k → k < below → k < length xs → test (get_or xs k d) ≡ false)
    → previous_place test below xs ≡ Some at
previous_place-last test below at xs d low high here after =
    last_place-last test 0 (take below xs) at d (omega (arith, length-take below xs)) (ap test (get_or-take below xs at d low) ∙ here)
    (λ k l m. let inside : k < below = omega (arith, length-take below xs) in ap test (get_or-take below xs k d inside) ∙ after k l inside (omega (arith, length-take below xs)))
    ∙ ap Some (omega arith)

pub previous_place-none : {X : Type 0} (test : X → Bool) (below : ℕ) (xs : List X) (d : X) → ((k : ℕ) → k < below → k < length xs → test (get_or xs k d) ≡ false) → previous_place test below xs ≡ None
previous_place-none test below xs d none =
    last_place-none test 0 (take below xs) d
    (λ k h. let inside : k < below = omega (arith, length-take below xs) in ap test (get_or-take below xs k d inside) ∙ none k inside (omega (arith, length-take below xs)))

-- ---- back from a place that was found

-- the least place at or after `from` that passes
pub record IsNextPlace {X : Type 0} (test : X → Bool) (from : ℕ) (xs : List X) (d : X) (at : ℕ) : Type 0 where
  pub low : from ≤ at
  pub high : at < length xs
  pub here : test (get_or xs at d) ≡ true
  pub before : (k : ℕ) → from ≤ k → k < at → test (get_or xs k d) ≡ false

-- what a search from place `start` found, by the index in the list
record IsFirstIndex {X : Type 0} (test : X → Bool) (start : ℕ) (xs : List X) (d : X) (at i : ℕ) : Type 0 where
  place : at ≡ start + i
  high : i < length xs
  here : test (get_or xs i d) ≡ true
  before : (k : ℕ) → k < i → test (get_or xs k d) ≡ false

position_from-is : {X : Type 0} (test : X → Bool) (start : ℕ) (xs : List X) (d : X) (at : ℕ) → position_from test start xs ≡ Some at → (i : ℕ) × IsFirstIndex test start xs d at i
position_from-is test start [] d at e = absurd (cc)
position_from-is test start (x ∷ xs) d at e = elim (cases_Bool (test x)) [
  | inl here ↦
      let found : Some start ≡ Some at = rw here at e in
      (0, record { place = omega (arith, some_is start at found); high = omega arith; here = here; before = λ k h. absurd (omega arith) })
  | inr not_here ↦
      let rest = position_from-is test (start + 1) xs d at (rw not_here at e) in (
        suc rest.0,
        record {
          place = omega (arith, rest.1.place);
          high = omega (arith, rest.1.high);
          here = rest.1.here;
          before = before_both test x xs d rest.0 not_here rest.1.before;
        },
      )
]
  where
    some_is : (a b : ℕ) → Some a ≡ Some b → a ≡ b
    some_is a b e = cc

    before_both : {X : Type 0} (test : X → Bool) (x : X) (xs : List X) (d : X) (i : ℕ) → test x ≡ false → ((k : ℕ) → k < i → test (get_or xs k d) ≡ false)
        → (k : ℕ) → k < suc i → test (get_or (x ∷ xs) k d) ≡ false
    before_both test x xs d i first rest zero h = first
    before_both test x xs d i first rest (suc k) h = rest k (omega arith)

position_from-empty : {X : Type 0} (test : X → Bool) (start : ℕ) (xs : List X) (d : X) → position_from test start xs ≡ None → (k : ℕ) → k < length xs → test (get_or xs k d) ≡ false
position_from-empty test start [] d e k h = absurd (omega arith)
position_from-empty test start (x ∷ xs) d e zero h = elim (cases_Bool (test x)) [
  | inl here ↦ let found : Some start ≡ None = rw here at e in absurd (cc)
  | inr not_here ↦ not_here
]
position_from-empty test start (x ∷ xs) d e (suc k) h = elim (cases_Bool (test x)) [
  | inl here ↦ let found : Some start ≡ None = rw here at e in absurd (cc)
  | inr not_here ↦ position_from-empty test (start + 1) xs d (rw not_here at e) k (omega arith)
]

pub next_place-is : {X : Type 0} (test : X → Bool) (from : ℕ) (xs : List X) (d : X) (at : ℕ) → next_place test from xs ≡ Some at → IsNextPlace test from xs d at
next_place-is test from xs d at e =
    let found = position_from-is test from (drop from xs) d at e in
    record {
      low = omega (arith, found.1.place);
      high = omega (arith, found.1.place, found.1.high, length-drop from xs);
      here = ap (λ k. test (get_or xs k d)) found.1.place ∙ ap test (sym (get_or-drop from xs found.0 d)) ∙ found.1.here;
      before = λ k later earlier.
          let place : from + (k - from) ≡ k = omega arith in
          ap (λ j. test (get_or xs j d)) (sym place) ∙ ap test (sym (get_or-drop from xs (k - from) d)) ∙ found.1.before (k - from) (omega (arith, found.1.place));
    }

pub next_place-empty : {X : Type 0} (test : X → Bool) (from : ℕ) (xs : List X) (d : X) → next_place test from xs ≡ None → (k : ℕ) → from ≤ k → k < length xs → test (get_or xs k d) ≡ false
next_place-empty test from xs d e k later h =
    let place : from + (k - from) ≡ k = omega arith in
    ap (λ j. test (get_or xs j d)) (sym place) ∙ ap test (sym (get_or-drop from xs (k - from) d))
    ∙ position_from-empty test from (drop from xs) d e (k - from) (omega (arith, length-drop from xs))

-- ---- a test of what a function gives

position_from-map : {X Y : Type 0} (test : Y → Bool) (f : X → Y) (start : ℕ) (xs : List X) → position_from test start (map f xs) ≡ position_from (λ x. test (f x)) start xs
position_from-map test f start [] = refl
position_from-map test f start (x ∷ xs) = ap (λ rest. cond (test (f x)) (Some start) rest) (position_from-map test f (start + 1) xs)

pub next_place-map : {X Y : Type 0} (test : Y → Bool) (f : X → Y) (from : ℕ) (xs : List X) → next_place test from (map f xs) ≡ next_place (λ x. test (f x)) from xs
next_place-map test f from xs = ap (position_from test from) (drop-map f from xs) ∙ position_from-map test f from (drop from xs)

last_place-map : {X Y : Type 0} (test : Y → Bool) (f : X → Y) (start : ℕ) (xs : List X) → last_place test start (map f xs) ≡ last_place (λ x. test (f x)) start xs
last_place-map test f start [] = refl
last_place-map test f start (x ∷ xs) = ap (λ rest. option_or rest (cond (test (f x)) (Some start) None)) (last_place-map test f (start + 1) xs)

pub previous_place-map : {X Y : Type 0} (test : Y → Bool) (f : X → Y) (below : ℕ) (xs : List X) → previous_place test below (map f xs) ≡ previous_place (λ x. test (f x)) below xs
previous_place-map test f below xs = ap (last_place test 0) (take-map f below xs) ∙ last_place-map test f 0 (take below xs)

pub next_place-some : {X : Type 0} (test : X → Bool) (from at : ℕ) (xs : List X) (d : X) → from ≤ at → at < length xs → test (get_or xs at d) ≡ true → is_some (next_place test from xs) ≡ true
next_place-some test from at xs d low high here = elim (split_option (next_place test from xs)) [
  | inl none ↦ absurd (true≢false (sym here ∙ next_place-empty test from xs d none at low high))
  | inr some ↦ ap is_some some.1
]

-- the greatest place before `below` that passes
pub record IsPreviousPlace {X : Type 0} (test : X → Bool) (below : ℕ) (xs : List X) (d : X) (at : ℕ) : Type 0 where
  pub low : at < below
  pub high : at < length xs
  pub here : test (get_or xs at d) ≡ true
  pub after : (k : ℕ) → at < k → k < below → k < length xs → test (get_or xs k d) ≡ false

-- none before `below` passes
pub record IsNoneBefore {X : Type 0} (test : X → Bool) (below : ℕ) (xs : List X) (d : X) : Type 0 where
  pub none : (k : ℕ) → k < below → k < length xs → test (get_or xs k d) ≡ false

greatest_more : {X : Type 0} (test : X → Bool) (below : ℕ) (xs : List X) (d : X) → (below < length xs → test (get_or xs below d) ≡ false)
    → ((at : ℕ) × IsPreviousPlace test below xs d at) ⊎ IsNoneBefore test below xs d → ((at : ℕ) × IsPreviousPlace test (suc below) xs d at) ⊎ IsNoneBefore test (suc below) xs d
greatest_more test below xs d not_here (inl found) = inl (
  found.0,
  record {
    low = omega (arith, found.1.low);
    high = found.1.high;
    here = found.1.here;
    after = λ k past before within. elim (cases_lt k below) [
      | inl earlier ↦ found.1.after k past earlier within
      | inr on ↦ let e : below ≡ k = omega arith in let P : ℕ → Type 0 = λ j. j < length xs → test (get_or xs j d) ≡ false in subst P e not_here within
    ];
  },
)
greatest_more test below xs d not_here (inr none) = inr record {
  none = λ k before within. elim (cases_lt k below) [
    | inl earlier ↦ none.none k earlier within
    | inr on ↦ let e : below ≡ k = omega arith in let P : ℕ → Type 0 = λ j. j < length xs → test (get_or xs j d) ≡ false in subst P e not_here within
  ];
}

greatest : {X : Type 0} (test : X → Bool) (below : ℕ) (xs : List X) (d : X) → ((at : ℕ) × IsPreviousPlace test below xs d at) ⊎ IsNoneBefore test below xs d
greatest test zero xs d = inr record { none = λ k before within. absurd (omega arith) }
greatest test (suc below) xs d = elim (cases_lt below (length xs)) [
  | inr past ↦ greatest_more test below xs d (λ within. absurd (omega arith)) (greatest test below xs d)
  | inl inside ↦ elim (cases_Bool (test (get_or xs below d))) [
    | inr not_here ↦ greatest_more test below xs d (λ within. not_here) (greatest test below xs d)
    | inl here ↦ inl (below, record { low = omega arith; high = inside; here = here; after = λ k past before within. absurd (omega arith) })
  ]
]

some_same : (a b : ℕ) → Some a ≡ Some b → a ≡ b
some_same a b e = cc

pub previous_place-is : {X : Type 0} (test : X → Bool) (below : ℕ) (xs : List X) (d : X) (at : ℕ) → previous_place test below xs ≡ Some at → IsPreviousPlace test below xs d at
previous_place-is test below xs d at e = elim (greatest test below xs d) [
  | inl found ↦
      let is : previous_place test below xs ≡ Some found.0 = previous_place-last test below found.0 xs d found.1.low found.1.high found.1.here found.1.after in
      let P : ℕ → Type 0 = λ j. IsPreviousPlace test below xs d j in
      subst P (some_same found.0 at (sym is ∙ e)) found.1
  | inr none ↦
      let is : previous_place test below xs ≡ None = previous_place-none test below xs d none.none in
      let both : None ≡ Some at = sym is ∙ e in absurd (cc)
]

pub previous_place-empty : {X : Type 0} (test : X → Bool) (below : ℕ) (xs : List X) (d : X) → previous_place test below xs ≡ None → (k : ℕ) → k < below → k < length xs → test (get_or xs k d) ≡ false
previous_place-empty test below xs d e = elim (greatest test below xs d) [
  | inr none ↦ none.none
  | inl found ↦
      let is : previous_place test below xs ≡ Some found.0 = previous_place-last test below found.0 xs d found.1.low found.1.high found.1.here found.1.after in
      let both : None ≡ Some found.0 = sym e ∙ is in absurd (cc)
]
