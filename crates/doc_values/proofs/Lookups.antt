-- The values of a document among rows.
use Rattle.std.proofs.Common.{◌≡◌, ℕ, ◌+◌, ◌-◌, ◌<◌, ◌^◌, ◌↔◌, ◌⊎◌, inl, inr, zero, suc, List, [], ◌∷◌, length, get_or, refl, sym, ◌∙◌, ap, subst, arith, Contains, ◌≤◌}
use Rattle.std.specs.List.Sorted.{IsStrictlyIncreasing, IsSorted}
use Rattle.std.specs.declared.cmp.Ordering.{Ordering}
use Rattle.std.proofs.lemmas.Bool.{cases_lt}
use Rattle.std.proofs.lemmas.Bool.Decides.{nat_tests}
use Rattle.std.proofs.lemmas.List.{length-map, get_or-map, get_or_default}
use Rattle.std.proofs.lemmas.Map.Keys.{sorted_from_strictly_increasing, below_from_sorted}
use Rattle.doc_values.specs.Values.{documents, values_of, AreRows}

-- the first row of the document has its values
values_of-first : {X : Type 0} (rows : List (ℕ × List X)) (at doc : ℕ) (d : ℕ × List X) → at < length rows → (get_or rows at d).0 ≡ doc → ((k : ℕ) → k < at → (get_or rows k d).0 ≡ doc → ⊥) → values_of doc rows ≡ (get_or rows at d).1
values_of-first [] at doc d below is before = absurd (omega arith)
values_of-first (r ∷ rows) zero doc d below is before = grind (arith, nat_tests)
values_of-first (r ∷ rows) (suc at) doc d below is before =
    let other : r.0 ≡ doc → ⊥ = λ same. before 0 (omega arith) same in
    let rest : values_of doc rows ≡ (get_or rows at d).1 = values_of-first rows at doc d (omega arith) is (λ k early same. before (suc k) (omega arith) same) in
    grind (arith, nat_tests, rest, other)

-- no row is the document's
values_of-absent : {X : Type 0} (rows : List (ℕ × List X)) (doc : ℕ) (d : ℕ × List X) → ((k : ℕ) → k < length rows → (get_or rows k d).0 ≡ doc → ⊥) → values_of doc rows ≡ []
values_of-absent [] doc d never = refl
values_of-absent (r ∷ rows) doc d never =
    let other : r.0 ≡ doc → ⊥ = λ same. never 0 (omega arith) same in
    let rest : values_of doc rows ≡ [] = values_of-absent rows doc d (λ k early same. never (suc k) (omega arith) same) in
    grind (arith, nat_tests, rest, other)

-- a number that isn't the first is one of the rest
contains_rest : (x : ℕ) (xs : List ℕ) (y k : ℕ) → k < length (x ∷ xs) → get_or (x ∷ xs) k y ≡ y → (x ≡ y → ⊥) → Contains xs y
contains_rest x xs y zero below is other = absurd (other is)
contains_rest x xs y (suc k) below is other = (k, omega arith, is)

same_or_other : (m n : ℕ) → (m ≡ n) ⊎ (m ≡ n → ⊥)
same_or_other m n = elim (cases_lt m n) [
  | inl less ↦ inr (λ same. absurd (omega (arith, same, less)))
  | inr from ↦ elim (cases_lt n m) [ inl more ↦ inr (λ same. absurd (omega (arith, same, more))) | inr to ↦ inl (omega (arith, from, to)) ]
]

-- either the document has no row and no values, or one of the rows is its own
pub record HasRow {X : Type 0} (rows : List (ℕ × List X)) (doc : ℕ) : Type 0 where
  pub at : ℕ
  pub below : at < length rows
  pub document : (d : ℕ × List X) → (get_or rows at d).0 ≡ doc
  pub values : (d : ℕ × List X) → (get_or rows at d).1 ≡ values_of doc rows

pub values_of-cases : {X : Type 0} (rows : List (ℕ × List X)) (doc : ℕ) → ((values_of doc rows ≡ []) × (Contains (documents rows) doc → ⊥)) ⊎ HasRow rows doc
values_of-cases [] doc = inl (refl, λ there. absurd (omega (arith, there.1)))
values_of-cases {X} (r ∷ rows) doc =
    elim (same_or_other r.0 doc) [
      | inl same ↦ inr (record {
        at = 0;
        below = omega arith;
        document = λ d. same;
        values = λ d. grind (arith, nat_tests, same);
      })
      | inr other ↦
          let skipped : values_of doc (r ∷ rows) ≡ values_of doc rows = grind (arith, nat_tests, other) in
          elim (values_of-cases rows doc) [
            | inl none ↦ inl (skipped ∙ none.0, λ there. none.1 (contains_rest r.0 (documents rows) doc there.0 there.1 there.2 other))
            | inr own ↦ inr (record {
              at = suc own.at;
              below = omega (arith, own.below);
              document = own.document;
              values = λ d. own.values d ∙ sym skipped;
            })
          ]
    ]

-- what is known of the values of a document of rows
pub values_of-fewer : {X : Type 0} (cmp : X → X → Ordering) (rows : List (ℕ × List X)) (doc : ℕ) → AreRows cmp rows → length (values_of doc rows) < 2 ^ 32
values_of-fewer {X} cmp rows doc are = elim (values_of-cases rows doc) [
  | inl none ↦ let short : length (values_of doc rows) ≡ 0 = ap length none.0 in omega (arith, short)
  | inr own ↦
      let d : ℕ × List X = (0, []) in
      let short : length (get_or rows own.at d).1 < 2 ^ 32 = (are.valued own.at d own.below).fewer in
      omega (arith, short, ap length (own.values d))
]

pub values_of-ascending : {X : Type 0} (cmp : X → X → Ordering) (rows : List (ℕ × List X)) (doc : ℕ) → AreRows cmp rows → IsSorted cmp (values_of doc rows)
values_of-ascending {X} cmp rows doc are = elim (values_of-cases rows doc) [
  | inl none ↦ subst (IsSorted cmp) (sym none.0) (λ k d low high. absurd (omega (arith, high)))
  | inr own ↦
      let d : ℕ × List X = (0, []) in
      subst (IsSorted cmp) (own.values d) (are.valued own.at d own.below).ascending
]

pub values_of-none : {X : Type 0} (cmp : X → X → Ordering) (rows : List (ℕ × List X)) (doc : ℕ) → AreRows cmp rows → (length (values_of doc rows) ≡ 0) ↔ ¬ Contains (documents rows) doc
values_of-none {X} cmp rows doc are = elim (values_of-cases rows doc) [
  | inl none ↦ (λ _. none.1, λ _. ap length none.0)
  | inr own ↦
      let d : ℕ × List X = (0, []) in
      let some : 0 < length (get_or rows own.at d).1 = (are.valued own.at d own.below).some in
      let first : ℕ × List X → ℕ = λ row. row.0 in
      let there : Contains (documents rows) doc =
      (own.at, omega (arith, length-map rows first, own.below), get_or-map first rows own.at d doc own.below ∙ own.document d) in
      (λ empty. absurd (omega (arith, empty, some, ap length (own.values d))), λ never. absurd (never there))
]

-- the document of a row
pub documents_at : {X : Type 0} (rows : List (ℕ × List X)) (at : ℕ) (d : ℕ × List X) → at < length rows → get_or (documents rows) at 0 ≡ (get_or rows at d).0
documents_at {X} rows at d inside = let first : ℕ × List X → ℕ = λ r. r.0 in get_or-map first rows at d 0 inside

-- one more number above the one before it
pub rising_more : (numbers : List ℕ) (at : ℕ) → 0 < at → ((k : ℕ) → k + 1 < at → get_or numbers k 0 < get_or numbers (k + 1) 0) → get_or numbers (at - 1) 0 < get_or numbers at 0 → (k : ℕ) → k + 1 < at + 1 → get_or numbers k 0 < get_or numbers (k + 1) 0
rising_more numbers at some before more k below =
    elim (cases_lt (k + 1) at) [
      | inl earlier ↦ before k earlier
      | inr from ↦
          let here : get_or numbers (at - 1) 0 ≡ get_or numbers k 0 = ap (λ i. get_or numbers i 0) (omega (arith, from, below, some)) in
          let next : get_or numbers at 0 ≡ get_or numbers (k + 1) 0 = ap (λ i. get_or numbers i 0) (omega (arith, from, below)) in
          omega (arith, here, next, more)
    ]

-- the row of a document that is found has its values, and one that has no row has none
pub values_of-at : {X : Type 0} (rows : List (ℕ × List X)) (at doc : ℕ) (d : ℕ × List X) → IsStrictlyIncreasing (documents rows) → at < length rows → (get_or rows at d).0 ≡ doc → values_of doc rows ≡ (get_or rows at d).1
values_of-at {X} rows at doc d ascend below is =
    let first : ℕ × List X → ℕ = λ row. row.0 in
    let here = documents_at rows at d below in
    values_of-first rows at doc d below is
    (λ k earlier own.
    let inside : at < length (documents rows) = omega (arith, below, length-map rows first) in
    let less : get_or (documents rows) k 0 < get_or (documents rows) at 0 = below_from_sorted (documents rows) k at 0 (sorted_from_strictly_increasing (documents rows) ascend) earlier inside in
    let there = documents_at rows k d (omega (arith, earlier, below)) in
    absurd (omega (arith, less, there, own, here, is)))

pub values_of-missing : {X : Type 0} (rows : List (ℕ × List X)) (doc : ℕ) → (Contains (documents rows) doc → ⊥) → values_of doc rows ≡ []
values_of-missing {X} rows doc never = elim (values_of-cases rows doc) [
  | inl none ↦ none.0
  | inr own ↦
      let d : ℕ × List X = (0, []) in
      let first : ℕ × List X → ℕ = λ row. row.0 in
      absurd (never (own.at, omega (arith, length-map rows first, own.below), get_or-map first rows own.at d doc own.below ∙ own.document d))
]

-- what is known of the element at an index
pub one_more : {X : Type 0} (P : X → Type 0) (xs : List X) (at k : ℕ) (own d : X) → at < length xs → own ≡ get_or xs at own → P own → at ≤ k → k < at + 1 → P (get_or xs k d)
one_more P xs at k own d inside is here from below =
    let same : at ≡ k = omega arith in
    subst P (is ∙ ap (λ i. get_or xs i own) same ∙ get_or_default xs k own d (omega arith)) here
