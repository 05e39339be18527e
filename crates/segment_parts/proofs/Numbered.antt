-- Things by number: where a binary search ends, the values of a document, and the column of a field.
use Rattle.std.proofs.Common.{◌≡◌, ℕ, ℤ, ◌<◌, ◌↔◌, zero, suc, List, [], ◌∷◌, length, get_or, slice_get, Some, None, Result, Ok, Err, Contains, IsTrue, is_ok, refl, sym, ap, subst, ◌∙◌, inl, inr, arith}
use Rattle.std.specs.List.{HoldsAt}
use Rattle.std.specs.List.Sorted.{IsStrictlyIncreasing, IsSorted, IsSearchInRange, IsBinarySearchResult, IsNonDecreasingBy}
use Rattle.std.specs.Cmp.{IsTotalOrder}
use Rattle.std.specs.Ordering.{nat_cmp, int_cmp, ordering_index}
use Rattle.std.specs.declared.cmp.Ordering.{Ordering}
use Rattle.std.specs.declared.cmp.Ordering.TheVariants.{Less, Equal, Greater}
use Rattle.std.proofs.lemmas.Bool.{cases_lt, false≢true}
use Rattle.std.proofs.lemmas.Bool.Decides.{nat_tests}
use Rattle.std.proofs.lemmas.Cmp.{ranked, int_ranked, tied_itself, nat_cmp_total, int_cmp_total}
use Rattle.std.proofs.lemmas.List.Sorted.{searchable_from_sorted}
use Rattle.std.proofs.lemmas.List.{length-map, get_or-map, get_or_default}
use Rattle.std.proofs.lemmas.Map.Keys.{sorted_from_strictly_increasing, below_from_sorted}
use Rattle.std.proofs.lemmas.Option.{slice_get_cases, slice_get-get_or, get_or_from_slice_get}
use Rattle.doc_values.specs.Values.{values_of}
use Rattle.segment_parts.specs.Fields.{fields, column_of}

-- the number of one of them
pub number_at : {X : Type 0} (rows : List (ℕ × X)) (at : ℕ) (row : ℕ × X) → at < length rows → get_or (fields rows) at 0 ≡ (get_or rows at row).0
number_at {X} rows at row inside = let first : ℕ × X → ℕ = λ r. r.0 in get_or-map first rows at row 0 inside

pub length-numbers : {X : Type 0} (rows : List (ℕ × X)) → length (fields rows) ≡ length rows
length-numbers {X} rows = let first : ℕ × X → ℕ = λ r. r.0 in length-map rows first

-- a number is before a later one
pub numbers-rise : {X : Type 0} (rows : List (ℕ × X)) (i j : ℕ) (row : ℕ × X) → IsStrictlyIncreasing (fields rows) → i < j → j < length rows → (get_or rows i row).0 < (get_or rows j row).0
numbers-rise rows i j row ascend earlier inside =
    let less : get_or (fields rows) i 0 < get_or (fields rows) j 0 =
    below_from_sorted (fields rows) i j 0 (sorted_from_strictly_increasing (fields rows) ascend) earlier (omega (arith, inside, length-numbers rows)) in
    omega (arith, less, number_at rows i row (omega (arith, earlier, inside)), number_at rows j row inside)

-- the comparisons of numbers with one of them rise, as a binary search asks
comparisons-rise : {X : Type 0} (rows : List (ℕ × X)) (doc : ℕ) → IsStrictlyIncreasing (fields rows) → IsNonDecreasingBy (λ (row : ℕ × X). ordering_index (nat_cmp row.0 doc)) rows
comparisons-rise rows doc ascend i j row upto inside =
    elim (cases_lt i j) [
      | inl earlier ↦ let less : (get_or rows i row).0 < (get_or rows j row).0 = numbers-rise rows i j row ascend earlier inside in grind (arith, nat_tests)
      | inr from ↦ let same : i ≡ j = omega arith in omega (arith, ap (λ k. ordering_index (nat_cmp (get_or rows k row).0 doc)) same)
    ]

-- what a binary search finds has the number
pub found_row : {X : Type 0} (rows : List (ℕ × X)) (doc at : ℕ) → at < length rows → HoldsAt (λ (row : ℕ × X). nat_cmp row.0 doc ≡ Equal) rows at → slice_get (fields rows) at ≡ Some doc
found_row rows doc at inside equal =
    elim (slice_get_cases rows at).1 [
      | inl own ↦
          let same : (get_or rows at own.0).0 ≡ doc = ranked _ doc _ (sym (equal own.0)) in
          slice_get-get_or (fields rows) at 0 (omega (arith, inside, length-numbers rows)) ∙ ap Some (number_at rows at own.0 inside ∙ same)
      | inr past ↦ absurd (omega (arith, past.0, inside))
    ]

-- a binary search that finds nothing shows that nothing has the number
pub missing_row : {X : Type 0} (rows : List (ℕ × X)) (doc at : ℕ) → IsStrictlyIncreasing (fields rows) → IsBinarySearchResult (λ (row : ℕ × X). nat_cmp row.0 doc) rows (Err at) → Contains (fields rows) doc → ⊥
missing_row rows doc at ascend parted there =
    let place = there.0 in
    let inside : place < length rows = omega (arith, there.1, length-numbers rows) in
    elim (slice_get_cases rows place).1 [
      | inl own ↦
          let same : (get_or rows place own.0).0 ≡ doc =
          sym (number_at rows place own.0 inside) ∙ get_or_default (fields rows) place 0 doc there.1 ∙ there.2 in
          let sides = parted (comparisons-rise rows doc ascend) in
          elim (cases_lt place at) [
            | inl before ↦ let less : (get_or rows place own.0).0 < doc = ranked _ doc _ (sym (sides.0 place own.0 (omega arith) before)) in absurd (omega (arith, less, same))
            | inr from ↦ let more : doc < (get_or rows place own.0).0 = ranked _ doc _ (sym (sides.1 place own.0 from inside)) in absurd (omega (arith, more, same))
          ]
      | inr past ↦ absurd (omega (arith, past.0, inside))
    ]

-- the first row of a document has its values
values_of-first : {X : Type 0} (rows : List (ℕ × List X)) (at doc : ℕ) (row : ℕ × List X) → at < length rows → (get_or rows at row).0 ≡ doc → ((k : ℕ) → k < at → (get_or rows k row).0 ≡ doc → ⊥) → values_of doc rows ≡ (get_or rows at row).1
values_of-first [] at doc row inside is before = absurd (omega arith)
values_of-first (r ∷ rows) zero doc row inside is before = grind (arith, nat_tests)
values_of-first (r ∷ rows) (suc at) doc row inside is before =
    let other : r.0 ≡ doc → ⊥ = λ same. before 0 (omega arith) same in
    let rest : values_of doc rows ≡ (get_or rows at row).1 = values_of-first rows at doc row (omega arith) is (λ k early same. before (suc k) (omega arith) same) in
    grind (arith, nat_tests, rest, other)

-- in ascending rows, that is the one with its number
pub values_of-found : {X : Type 0} (rows : List (ℕ × List X)) (at doc : ℕ) (row : ℕ × List X) → IsStrictlyIncreasing (fields rows) → at < length rows → slice_get (fields rows) at ≡ Some doc → values_of doc rows ≡ (get_or rows at row).1
values_of-found rows at doc row ascend inside found =
    let is : (get_or rows at row).0 ≡ doc = sym (number_at rows at row inside) ∙ get_or_from_slice_get (fields rows) at doc 0 found in
    values_of-first rows at doc row inside is (λ k early same.
    let less : (get_or rows k row).0 < (get_or rows at row).0 = numbers-rise rows k at row ascend early inside in
    omega (arith, less, same, is))

-- and a document that has no row has no values
pub values_of-missing : {X : Type 0} (rows : List (ℕ × List X)) (doc : ℕ) → (Contains (fields rows) doc → ⊥) → values_of doc rows ≡ []
values_of-missing [] doc never = refl
values_of-missing (r ∷ rows) doc never =
    let other : r.0 ≡ doc → ⊥ = λ same. never (0, omega arith, same) in
    let rest : values_of doc rows ≡ [] = values_of-missing rows doc (λ there. never (suc there.0, omega (arith, there.1), there.2)) in
    grind (arith, nat_tests, rest, other)

-- a binary search among ascending values finds one exactly where it stands there
pub searched_value : {K : Type 0} {R : K → K → Ordering} (total : IsTotalOrder R) (same : (a b : K) → R a b ≡ Equal → a ≡ b) (values : List K) (value : K) (r : Result ℕ ℕ) → IsSorted R values → IsSearchInRange r (length values) → IsBinarySearchResult (λ y. R y value) values r → IsTrue (is_ok r) ↔ Contains values value
searched_value total same values value (Ok at) ascend inside equal = (λ _. (at, inside, same _ value (equal value)), λ _. refl)
searched_value {K} {R} total same values value (Err at) ascend inside parted = (
  λ no. absurd (false≢true no),
  λ there.
      let sides = parted (searchable_from_sorted total (λ y. y) values value ascend) in
      let itself : R (get_or values there.0 value) value ≡ Equal = ap (λ y. R y value) there.2 ∙ tied_itself total value in
      elim (cases_lt there.0 at) [
        | inl before ↦ let less : R (get_or values there.0 value) value ≡ Less = sides.0 there.0 value (omega arith) before in cc
        | inr from ↦ let more : R (get_or values there.0 value) value ≡ Greater = sides.1 there.0 value from there.1 in cc
      ],
)

-- the same of ordinals, and of numbers
pub searched_ordinal : (values : List ℕ) (value : ℕ) (r : Result ℕ ℕ) → IsSorted nat_cmp values → IsSearchInRange r (length values) → IsBinarySearchResult (λ y. nat_cmp y value) values r → IsTrue (is_ok r) ↔ Contains values value
searched_ordinal = searched_value nat_cmp_total (λ a b equal. ranked a b Equal (sym equal))

pub searched_number : (values : List ℤ) (value : ℤ) (r : Result ℕ ℕ) → IsSorted int_cmp values → IsSearchInRange r (length values) → IsBinarySearchResult (λ y. int_cmp y value) values r → IsTrue (is_ok r) ↔ Contains values value
searched_number = searched_value int_cmp_total (λ a b equal. int_ranked a b Equal (sym equal))

-- the column of a field, likewise
column_of-first : {X : Type 0} (columns : List (ℕ × X)) (at field : ℕ) (column : ℕ × X) → at < length columns → (get_or columns at column).0 ≡ field → ((k : ℕ) → k < at → (get_or columns k column).0 ≡ field → ⊥) → column_of field columns ≡ Some (get_or columns at column).1
column_of-first [] at field column inside is before = absurd (omega arith)
column_of-first (c ∷ columns) zero field column inside is before = grind (arith, nat_tests)
column_of-first (c ∷ columns) (suc at) field column inside is before =
    let other : c.0 ≡ field → ⊥ = λ same. before 0 (omega arith) same in
    let rest : column_of field columns ≡ Some (get_or columns at column).1 = column_of-first columns at field column (omega arith) is (λ k early same. before (suc k) (omega arith) same) in
    grind (arith, nat_tests, rest, other)

pub column_of-found : {X : Type 0} (columns : List (ℕ × X)) (at field : ℕ) (column : ℕ × X) → IsStrictlyIncreasing (fields columns) → at < length columns → slice_get (fields columns) at ≡ Some field → column_of field columns ≡ Some (get_or columns at column).1
column_of-found columns at field column ascend inside found =
    let is : (get_or columns at column).0 ≡ field = sym (number_at columns at column inside) ∙ get_or_from_slice_get (fields columns) at field 0 found in
    column_of-first columns at field column inside is (λ k early same.
    let less : (get_or columns k column).0 < (get_or columns at column).0 = numbers-rise columns k at column ascend early inside in
    omega (arith, less, same, is))

pub column_of-missing : {X : Type 0} (columns : List (ℕ × X)) (field : ℕ) → (Contains (fields columns) field → ⊥) → column_of field columns ≡ None
column_of-missing [] field never = refl
column_of-missing (c ∷ columns) field never =
    let other : c.0 ≡ field → ⊥ = λ same. never (0, omega arith, same) in
    let rest : column_of field columns ≡ None = column_of-missing columns field (λ there. never (suc there.0, omega (arith, there.1), there.2)) in
    grind (arith, nat_tests, rest, other)

-- the column that a search found, and that none was found, in the list as it is seen
pub found_column : {X : Type 0} (columns own : List (ℕ × X)) (at field : ℕ) (column : ℕ × X) → columns ≡ own → IsStrictlyIncreasing (fields own) → at < length columns → slice_get (fields columns) at ≡ Some field → Some (get_or columns at column).1 ≡ column_of field own
found_column {X} columns own at field column same ascend inside found =
    sym (column_of-found columns at field column (subst (λ (cs : List (ℕ × X)). IsStrictlyIncreasing (fields cs)) (sym same) ascend) inside found) ∙ ap (column_of field) same

pub missing_column : {X : Type 0} (columns own : List (ℕ × X)) (field : ℕ) → columns ≡ own → (Contains (fields columns) field → ⊥) → None ≡ column_of field own
missing_column columns own field same never = sym (column_of-missing columns field never) ∙ ap (column_of field) same
