-- Documents counted by the terms of a keyword field that they show.
use Rattle.std.proofs.Common.{◌≡◌, ℕ, zero, suc, ◌+◌, ◌-◌, ◌==◌, ◌<◌, ◌≤◌, Bool, true, false, ◌||◌, cond, List, [], ◌∷◌, ◌++◌, length, map, get_or, slice_get, count_by, replicate, Option, Some, None, refl, sym, ap, subst, ◌∙◌, inl, inr, ◌⊎◌, arith}
use Rattle.std.specs.Prelude.{IsSomeAnd, IsTrue}
use Rattle.std.specs.Cmp.{IsTotalOrder}
use Rattle.std.specs.List.{All, flat_map, list_any}
use Rattle.std.specs.List.Sorted.{IsPermutation, IsSorted}
use Rattle.std.specs.Ordering.{nat_cmp}
use Rattle.std.specs.declared.cmp.Ordering.TheVariants.{Less, Equal}
use Rattle.std.proofs.lemmas.Bool.{eq-eqb, eqb-true, false≢true}
use Rattle.std.proofs.lemmas.Cmp.{nat_cmp_total, nat_list_cmp_total, on_total, then_total, tied_itself}
use Rattle.std.proofs.lemmas.List.{length-replicate}
use Rattle.std.proofs.lemmas.List.Elements.{All-from_recursion, recursion_from_All}
use Rattle.std.proofs.lemmas.List.Sorted.{All-permutation}
use Rattle.std.proofs.lemmas.Map.Keys.{Less-from_sorted}
use Rattle.std.proofs.lemmas.Option.{get_or_from_slice_get, same_Some, slice_get-get_or, slice_get_within}
use Rattle.doc_values.specs.Values.{AreRows, values_of}
use Rattle.segment.specs.Flat.{bytes_at}
use Rattle.segment_parts.specs.Agree.{AreColumns, HaveOrdinals, IsOrdinalAt}
use Rattle.segment_parts.specs.Fields.{column_of}
use Rattle.segment_parts.specs.Lists.{postings_of, terms_of}
use Rattle.segment_parts.specs.declared.columns.Columns.{Columns}
use Rattle.term_table.specs.Ranges.{IsRange, is_of_field}
use Rattle.term_table.specs.Terms.{AreAscending, term_cmp}
use Rattle.query_ast.specs.Compare.{is_same_value, value_cmp}
use Rattle.tree_objects.specs.declared.field_value.FieldValue.{FieldValue}
use Rattle.tree_objects.specs.declared.field_value.FieldValue.TheVariants.{Written}
use Rattle.bucket_aggs.specs.Counts.{Counted, count_if, counts_of, has_ordinal, is_term, once_by, term_key}
use Rattle.query_ast.proofs.Keys.{same_itself}
use Rattle.query_ast.proofs.Elements.{Each, by_test, each_as}
use Rattle.bucket_aggs.proofs.Numbered.{column_sorted, count_permuted}
use Rattle.bucket_aggs.proofs.Onces.{once_each}
use Rattle.bucket_aggs.proofs.Ordinals.{is_one, left_at_start, one_is}
use Rattle.bucket_aggs.proofs.Rowed.{count_alike, count_flat, count_mapped, count_none, one_if, sum_same}
use Rattle.query_ast.proofs.Values.{value_exact, value_total}
use Rattle.bucket_aggs.proofs.Weights.{same_key}

abbrev pub TermList : Type 0
TermList = List (ℕ × List ℕ)

-- ---- the ordinals in a column are of the field's terms

abbrev pub IsOf : TermList → ℕ → ℕ → Type 0
IsOf terms f ordinal = IsSomeAnd (slice_get terms ordinal) (λ (term : ℕ × List ℕ). term.0 ≡ f)

pub column_has : {X : Type 0} (P : ℕ × X → Type 0) (f : ℕ) (found : X) (columns : List (ℕ × X)) → Each P columns → column_of f columns ≡ Some found → P (f, found)
column_has P f found [] all is = absurd (let no : ⊥ = cc in no)
column_has {X} P f found (column ∷ columns) all is =
    by_test (column.0 == f)
    (λ held.
    let here : Some column.1 ≡ Some found = rw held at is in
    subst (λ (n : ℕ). P (n, found)) (eqb-true column.0 f held) (subst (λ (x : X). P (column.0, x)) (same_Some column.1 found here) all.0))
    (λ failed. column_has P f found columns all.1 (rw failed at is))

-- an ordinal of a term is below the number of terms
within_list : (terms : TermList) (f ordinal : ℕ) → IsOf terms f ordinal → ordinal < length terms
within_list terms f ordinal is = by (slice_get terms ordinal) refl is
  where
    by : (x : Option (ℕ × List ℕ)) → slice_get terms ordinal ≡ x → IsSomeAnd x (λ (term : ℕ × List ℕ). term.0 ≡ f) → ordinal < length terms
    by None own has = absurd has
    by (Some term) own has = slice_get_within terms ordinal term own

pub values_have : (Q : ℕ → ℕ → Type 0) (doc : ℕ) (rows : List (ℕ × List ℕ)) → Each (λ (row : ℕ × List ℕ). Each (Q row.0) row.1) rows → Each (Q doc) (values_of doc rows)
values_have Q doc [] all = tt
values_have Q doc (row ∷ rows) all =
    by_test (row.0 == doc)
    (λ held. rw held (subst (λ (d : ℕ). Each (Q d) row.1) (eqb-true row.0 doc held) all.0))
    (λ failed. rw failed (values_have Q doc rows all.1))

pub ordinals_of : (columns : Columns) (f doc : ℕ) (found : List (ℕ × List ℕ)) → AreColumns columns → column_of f columns.ordinals ≡ Some found → Each (IsOf (terms_of columns) f) (values_of doc found)
ordinals_of columns f doc found are is =
    let terms : TermList = terms_of columns in
    let own : HaveOrdinals terms (postings_of columns) (f, found) =
    column_has (HaveOrdinals terms (postings_of columns)) f found columns.ordinals (recursion_from_All (HaveOrdinals terms (postings_of columns)) columns.ordinals are.terms.ordinals) is in
    let each : Each (λ (row : ℕ × List ℕ). All (λ ordinal. IsOrdinalAt terms (postings_of columns) f row.0 ordinal) row.1) found =
    recursion_from_All (λ (row : ℕ × List ℕ). All (λ ordinal. IsOrdinalAt terms (postings_of columns) f row.0 ordinal) row.1) found own in
    values_have (λ d ordinal. IsOf terms f ordinal) doc found
    (each_as (λ (row : ℕ × List ℕ). All (λ ordinal. IsOrdinalAt terms (postings_of columns) f row.0 ordinal) row.1) (λ (row : ℕ × List ℕ). Each (IsOf terms f) row.1)
    (λ row all. each_as (IsOrdinalAt terms (postings_of columns) f row.0) (IsOf terms f) (λ ordinal at. at.of_field) row.1 (recursion_from_All (IsOrdinalAt terms (postings_of columns) f row.0) row.1 all)) found each)

-- ---- terms are different

term_total : IsTotalOrder term_cmp
term_total = then_total (on_total (λ (t : ℕ × List ℕ). t.0) nat_cmp_total) (on_total (λ (t : ℕ × List ℕ). t.1) nat_list_cmp_total)

later_apart : (terms : TermList) (i j : ℕ) (term : ℕ × List ℕ) → AreAscending terms → slice_get terms i ≡ Some term → slice_get terms j ≡ Some term → i < j → ⊥
later_apart terms i j term up first second less =
    let here : get_or terms i term ≡ term = get_or_from_slice_get terms i term term first in
    let there : get_or terms j term ≡ term = get_or_from_slice_get terms j term term second in
    let before : term_cmp (get_or terms i term) (get_or terms j term) ≡ Less = Less-from_sorted term_cmp terms i j term up less (slice_get_within terms j term second) in
    let own : Equal ≡ Less = sym (tied_itself term_total term) ∙ ap (λ t. term_cmp t term) (sym here) ∙ ap (term_cmp (get_or terms i term)) (sym there) ∙ before in
    let no : ⊥ = cc in no

pub one_place : (terms : TermList) (i j : ℕ) (term : ℕ × List ℕ) → AreAscending terms → slice_get terms i ≡ Some term → slice_get terms j ≡ Some term → i ≡ j
one_place terms i j term up first second =
    by_test (i == j)
    (λ held. eqb-true i j held)
    (λ failed. absurd (grind (arith, later_apart terms i j term up first second, later_apart terms j i term up second first, failed)))

module _ (terms : TermList) (f first n : ℕ) (up : AreAscending terms) (range : IsRange (is_of_field f) terms first (first + n)) (within : first + n ≤ length terms) where
  -- the key of a term of the field, by its place among them
  abbrev key_at : ℕ → FieldValue
  key_at k = term_key terms (first + k)

  -- the term at an ordinal of the field
  at_ordinal : (ordinal : ℕ) → IsOf terms f ordinal → slice_get terms ordinal ≡ Some (f, bytes_at terms ordinal)
  at_ordinal ordinal is = by (slice_get terms ordinal) refl is
    where
      by : (x : Option (ℕ × List ℕ)) → slice_get terms ordinal ≡ x → IsSomeAnd x (λ (term : ℕ × List ℕ). term.0 ≡ f) → slice_get terms ordinal ≡ Some (f, bytes_at terms ordinal)
      by None own has = absurd has
      by (Some term) own has =
          let here : get_or terms ordinal (0, []) ≡ term = get_or_from_slice_get terms ordinal term (0, []) own in
          own ∙ ap (λ (n : ℕ). Some (n, term.1)) has ∙ ap (λ (t : ℕ × List ℕ). Some (f, t.1)) (sym here)

  pub of_range : (k : ℕ) → k < n → IsOf terms f (first + k)
  of_range k low =
      let inside : first + k < length terms = omega (arith, low, within) in
      let is : slice_get terms (first + k) ≡ Some (get_or terms (first + k) (0, [])) = slice_get-get_or terms (first + k) (0, []) inside in
      let here : IsTrue (is_of_field f (get_or terms (first + k) (0, []))) = (range (first + k) (get_or terms (first + k) (0, [])) is).0 (omega arith, omega (arith, low)) in
      subst (λ (x : Option (ℕ × List ℕ)). IsSomeAnd x (λ (term : ℕ × List ℕ). term.0 ≡ f)) (sym is) (eqb-true (get_or terms (first + k) (0, [])).0 f here)

  -- and each ordinal of the field lies there
  in_range : (ordinal : ℕ) → IsOf terms f ordinal → (first ≤ ordinal) × (ordinal < first + n)
  in_range ordinal is =
      let at : slice_get terms ordinal ≡ Some (f, bytes_at terms ordinal) = at_ordinal ordinal is in
      (range ordinal (f, bytes_at terms ordinal) at).1 (eq-eqb f f refl)

  same_term : (i j : ℕ) → IsOf terms f i → IsOf terms f j → bytes_at terms i ≡ bytes_at terms j → i ≡ j
  same_term i j one other same =
      one_place terms i j (f, bytes_at terms j) up (at_ordinal i one ∙ ap (λ (bytes : List ℕ). Some (f, bytes)) same) (at_ordinal j other)

  -- ---- a value among the keys

  abbrev Found : FieldValue → ℕ → ℕ → Type 0
  Found v at count = ((k : ℕ) × (at ≤ k) × (k < at + count) × (v ≡ key_at k)) ⊎ ((k : ℕ) → at ≤ k → k < at + count → is_same_value v (key_at k) ≡ false)

  look : (v : FieldValue) (at count : ℕ) → Found v at count
  look v at zero = inr (λ k from to. absurd (omega (arith, from, to)))
  look v at (suc count) =
      by_test (is_same_value v (key_at at))
      (λ held. inl (at, omega arith, omega arith, same_key v (key_at at) held))
      (λ failed. on failed (look v (at + 1) count))
    where
      on : is_same_value v (key_at at) ≡ false → Found v (at + 1) count → Found v at (suc count)
      on other (inl found) = inl (found.0, omega (arith, found.1), omega (arith, found.2), found.3)
      on other (inr none) =
          inr (λ k from to. by_test (at == k)
          (λ held. subst (λ (i : ℕ). is_same_value v (key_at i) ≡ false) (eqb-true at k held) other)
          (λ failed. none k (grind (arith, from, failed)) (omega (arith, to))))

  -- ---- what the counts say of a value

  abbrev parts : FieldValue → List ℕ → ℕ → ℕ → ℕ
  parts v counts at some = counts_of terms first v counts at some

  no_parts : (v : FieldValue) (counts : List ℕ) (at count : ℕ) → ((k : ℕ) → at ≤ k → k < at + count → is_same_value v (key_at k) ≡ false) → parts v counts at count ≡ 0
  no_parts v counts at zero none = refl
  no_parts v counts at (suc count) none =
      let other : is_same_value v (key_at at) ≡ false = none at (omega arith) (omega arith) in
      let rest : parts v counts (at + 1) count ≡ 0 = no_parts v counts (at + 1) count (λ k from to. none k (omega (arith, from)) (omega (arith, to))) in
      rw other (omega (arith, rest))

  other_key : (k j : ℕ) → k < n → j < n → (k ≡ j → ⊥) → is_same_value (key_at k) (key_at j) ≡ false
  other_key k j low high apart =
      by_test (is_same_value (key_at k) (key_at j))
      (λ held.
      let bytes : bytes_at terms (first + k) ≡ bytes_at terms (first + j) = same_bytes (same_key (key_at k) (key_at j) held) in
      absurd (apart (omega (arith, same_term (first + k) (first + j) (of_range k low) (of_range j high) bytes))))
      (λ failed. failed)
    where
      same_bytes : {a b : List ℕ} → Written a ≡ Written b → a ≡ b
      same_bytes {a} {b} is = cc

  one_part : (counts : List ℕ) (k at count : ℕ) → at ≤ k → k < at + count → at + count ≤ n → parts (key_at k) counts at count ≡ get_or counts k 0
  one_part counts k at zero from to low = absurd (omega (arith, from, to))
  one_part counts k at (suc count) from to low =
      by_test (at == k)
      (λ held.
      let same : at ≡ k = eqb-true at k held in
      let own : is_same_value (key_at k) (key_at at) ≡ true = ap (λ (i : ℕ). is_same_value (key_at k) (key_at i)) same ∙ same_itself value_cmp value_total value_exact (key_at k) in
      let rest : parts (key_at k) counts (at + 1) count ≡ 0 =
      no_parts (key_at k) counts (at + 1) count (λ j past high. other_key k j (omega (arith, to, low)) (omega (arith, high, low)) (λ equal. omega (arith, equal, past, same))) in
      let here : count_if (key_at k) (key_at at) (get_or counts at 0) ≡ get_or counts k 0 = ap (λ (b : Bool). cond b (get_or counts at 0) 0) own ∙ ap (λ (i : ℕ). get_or counts i 0) same in
      omega (arith, here, rest))
      (λ failed.
      let apart : k ≡ at → ⊥ = λ equal. false≢true (sym failed ∙ eq-eqb at k (sym equal)) in
      let other : is_same_value (key_at k) (key_at at) ≡ false = other_key k at (omega (arith, to, low)) (omega (arith, low)) apart in
      let rest : parts (key_at k) counts (at + 1) count ≡ get_or counts k 0 = one_part counts k (at + 1) count (grind (arith, from, failed)) (omega (arith, to)) (omega (arith, low)) in
      rw other (omega (arith, rest)))

  -- ---- what documents show

  -- the value is among the terms that a document has
  abbrev pub shows_term : FieldValue → List ℕ → Bool
  shows_term v ordinals = list_any (is_same_value v) (map Written (map (bytes_at terms) ordinals))

  never_one : (v : FieldValue) → ((k : ℕ) → k < n → is_same_value v (key_at k) ≡ false) → (ordinal : ℕ) → IsOf terms f ordinal → is_term terms v ordinal ≡ false
  never_one v none ordinal of =
      let lies = in_range ordinal of in
      let place : first + (ordinal - first) ≡ ordinal = omega (arith, lies.0) in
      ap (λ (i : ℕ). is_same_value v (Written (bytes_at terms i))) (sym place) ∙ none (ordinal - first) (omega (arith, lies.0, lies.1))

  same_one : (k : ℕ) → k < n → (ordinal : ℕ) → IsOf terms f ordinal → is_term terms (key_at k) ordinal ≡ (ordinal == first + k)
  same_one k low ordinal of =
      by_test (ordinal == first + k)
      (λ held.
      let same : ordinal ≡ first + k = eqb-true ordinal (first + k) held in
      ap (λ (i : ℕ). is_same_value (key_at k) (Written (bytes_at terms i))) same ∙ same_itself value_cmp value_total value_exact (key_at k) ∙ sym held)
      (λ failed.
      let lies = in_range ordinal of in
      let place : first + (ordinal - first) ≡ ordinal = omega (arith, lies.0) in
      let apart : k ≡ ordinal - first → ⊥ = λ equal. false≢true (sym failed ∙ eq-eqb ordinal (first + k) (omega (arith, equal, place))) in
      ap (λ (i : ℕ). is_same_value (key_at k) (Written (bytes_at terms i))) (sym place) ∙ other_key k (ordinal - first) low (omega (arith, lies.0, lies.1)) apart ∙ sym failed)

  shows_none : (v : FieldValue) → ((k : ℕ) → k < n → is_same_value v (key_at k) ≡ false) → (ordinals : List ℕ) → Each (IsOf terms f) ordinals → shows_term v ordinals ≡ false
  shows_none v none [] all = refl
  shows_none v none (ordinal ∷ ordinals) all =
      let other : is_same_value v (Written (bytes_at terms ordinal)) ≡ false = never_one v none ordinal all.0 in
      rw other (shows_none v none ordinals all.1)

  shows_one : (k : ℕ) → k < n → (ordinals : List ℕ) → Each (IsOf terms f) ordinals → shows_term (key_at k) ordinals ≡ has_ordinal (first + k) ordinals
  shows_one k low [] all = refl
  shows_one k low (ordinal ∷ ordinals) all =
      ap (λ (b : Bool). b || shows_term (key_at k) ordinals) (same_one k low ordinal all.0)
      ∙ ap (λ (b : Bool). (ordinal == first + k) || b) (shows_one k low ordinals all.1)

  -- of the different terms of a document one is the value where the document shows it
  pub once_term : (v : FieldValue) (ordinals : List ℕ) → Each (IsOf terms f) ordinals → IsSorted nat_cmp ordinals → count_by (is_term terms v) (once_by nat_cmp ordinals) ≡ cond (shows_term v ordinals) 1 0
  once_term v ordinals all up = by (look v 0 n)
    where
      kept : Each (IsOf terms f) (once_by nat_cmp ordinals)
      kept = once_each is_one (IsOf terms f) None ordinals all

      by : Found v 0 n → count_by (is_term terms v) (once_by nat_cmp ordinals) ≡ cond (shows_term v ordinals) 1 0
      by (inr absent) =
          let none : (k : ℕ) → k < n → is_same_value v (key_at k) ≡ false = λ k low. absent k (omega arith) (omega (arith, low)) in
          count_none (is_term terms v) (once_by nat_cmp ordinals) (each_as (IsOf terms f) (λ (ordinal : ℕ). is_term terms v ordinal ≡ false) (never_one v none) (once_by nat_cmp ordinals) kept)
          ∙ ap (λ (b : Bool). cond {A = ℕ} b 1 0) (sym (shows_none v none ordinals all))
      by (inl found) =
          let k : ℕ = found.0 in
          let from : 0 ≤ k = found.1 in
          let to : k < 0 + n = found.2 in
          let is : v ≡ key_at k = found.3 in
          let low : k < n = omega (arith, to) in
          ap (λ (w : FieldValue). count_by (is_term terms w) (once_by nat_cmp ordinals)) is
          ∙ count_alike (is_term terms (key_at k)) (is_one (first + k)) (once_by nat_cmp ordinals)
          (each_as (IsOf terms f) (λ (ordinal : ℕ). is_term terms (key_at k) ordinal ≡ is_one (first + k) ordinal) (λ ordinal of. same_one k low ordinal of ∙ sym (one_is (first + k) ordinal)) (once_by nat_cmp ordinals) kept)
          ∙ left_at_start (first + k) ordinals up
          ∙ ap (λ (b : Bool). cond {A = ℕ} b 1 0) (sym (shows_one k low ordinals all))
          ∙ ap (λ (w : FieldValue). cond {A = ℕ} (shows_term w ordinals) 1 0) (sym is)

  -- counts of ordinals are counts of the documents that show their terms
  pub parts_are : (v : FieldValue) (none counts : List ℕ) (lists : List (List ℕ)) → Each (Each (IsOf terms f)) lists → length none ≡ n → ((k : ℕ) → get_or none k 0 ≡ 0) → Counted first lists none counts → parts v counts 0 n ≡ count_by (shows_term v) lists
  parts_are v none counts lists all long nothing counted = by (look v 0 n)
    where
      by : Found v 0 n → parts v counts 0 n ≡ count_by (shows_term v) lists
      by (inr absent) =
          no_parts v counts 0 n absent
          ∙ sym (count_none (shows_term v) lists (each_as (Each (IsOf terms f)) (λ (ordinals : List ℕ). shows_term v ordinals ≡ false) (λ ordinals of. shows_none v (λ k low. absent k (omega arith) (omega (arith, low))) ordinals of) lists all))
      by (inl found) =
          let k : ℕ = found.0 in
          let from : 0 ≤ k = found.1 in
          let to : k < 0 + n = found.2 in
          let is : v ≡ key_at k = found.3 in
          let low : k < n = omega (arith, to) in
          omega (
            arith,
            ap (λ (w : FieldValue). parts w counts 0 n) is,
            one_part counts k 0 n from to (omega arith),
            counted.each k (omega (arith, low, long)),
            nothing k,
            count_alike (shows_term (key_at k)) (has_ordinal (first + k)) lists (each_as (Each (IsOf terms f)) (λ (ordinals : List ℕ). shows_term (key_at k) ordinals ≡ has_ordinal (first + k) ordinals) (λ ordinals of. shows_one k low ordinals of) lists all),
            ap (λ (w : FieldValue). count_by (shows_term w) lists) is,
          )

  -- what is made of the documents with an ordinal is made of those that show its term
  pub parts_by : (F : (ℕ → Bool) → ℕ) → ((one other : ℕ → Bool) → ((doc : ℕ) → one doc ≡ other doc) → F one ≡ F other) → F (λ doc. false) ≡ 0
      → (v : FieldValue) (counts : List ℕ) (has : ℕ → List ℕ) → ((doc : ℕ) → Each (IsOf terms f) (has doc)) → ((k : ℕ) → k < n → get_or counts k 0 ≡ F (λ doc. has_ordinal (first + k) (has doc)))
      → parts v counts 0 n ≡ F (λ doc. shows_term v (has doc))
  parts_by F same none v counts has all each = by (look v 0 n)
    where
      by : Found v 0 n → parts v counts 0 n ≡ F (λ doc. shows_term v (has doc))
      by (inr absent) =
          no_parts v counts 0 n absent
          ∙ sym none
          ∙ same (λ doc. false) (λ doc. shows_term v (has doc)) (λ doc. sym (shows_none v (λ k low. absent k (omega arith) (omega (arith, low))) (has doc) (all doc)))
      by (inl found) =
          let k : ℕ = found.0 in
          let from : 0 ≤ k = found.1 in
          let to : k < 0 + n = found.2 in
          let is : v ≡ key_at k = found.3 in
          let low : k < n = omega (arith, to) in
          ap (λ (w : FieldValue). parts w counts 0 n) is
          ∙ one_part counts k 0 n from to (omega arith)
          ∙ each k low
          ∙ same (λ doc. has_ordinal (first + k) (has doc)) (λ doc. shows_term (key_at k) (has doc)) (λ doc. sym (shows_one k low (has doc) (all doc)))
          ∙ ap (λ (w : FieldValue). F (λ doc. shows_term w (has doc))) (sym is)

-- one count more
pub counts_step : (terms : TermList) (first : ℕ) (v : FieldValue) (counts : List ℕ) (at some : ℕ) → at < some → counts_of terms first v counts at (some - at) ≡ count_if v (term_key terms (first + at)) (get_or counts at 0) + counts_of terms first v counts (at + 1) (some - (at + 1))
counts_step terms first v counts at some low = let more : some - at ≡ suc (some - (at + 1)) = omega (arith, low) in ap (counts_of terms first v counts at) more

-- the counts of ordinals of one segment
pub texts_counted : (columns : Columns) (f : ℕ) (found : List (ℕ × List ℕ)) (docs : List ℕ) → AreColumns columns → column_of f columns.ordinals ≡ Some found
    → (terms : TermList) → terms ≡ terms_of columns → AreAscending terms → (first end : ℕ) → first ≤ end → end ≤ length terms → IsRange (is_of_field f) terms first end
    → (none counts shown : List ℕ) → none ≡ replicate (end - first) 0 → Counted first (map (λ doc. values_of doc found) docs) none counts → shown ≡ counts → (v : FieldValue)
    → counts_of terms first v shown 0 (length shown) ≡ count_by (λ ordinals. list_any (is_same_value v) (map Written (map (bytes_at (terms_of columns)) ordinals))) (map (λ doc. values_of doc found) docs)
texts_counted columns f found docs are is terms own up first end ordered within range none counts shown nothing counted same v =
    let n : ℕ = end - first in
    let whole : first + n ≡ end = omega (arith, ordered) in
    let mine : AreAscending (terms_of columns) = subst AreAscending own up in
    let there : IsRange (is_of_field f) (terms_of columns) first (first + n) = subst (λ (e : ℕ). IsRange (is_of_field f) (terms_of columns) first e) (sym whole) (subst (λ (t : TermList). IsRange (is_of_field f) t first end) own range) in
    let inside : first + n ≤ length (terms_of columns) = omega (arith, within, ap (λ (t : TermList). length t) own, whole) in
    let long : length none ≡ n = ap length nothing ∙ length-replicate {A = ℕ} n 0 in
    let all_none : (k : ℕ) → get_or none k 0 ≡ 0 = λ k. ap (λ (l : List ℕ). get_or l k 0) nothing ∙ same_at 0 n k in
    let made : length shown ≡ n = ap length same ∙ counted.long ∙ long in
    ap (λ (t : TermList). counts_of t first v shown 0 (length shown)) own
    ∙ ap (counts_of (terms_of columns) first v shown 0) made
    ∙ ap (λ (l : List ℕ). counts_of (terms_of columns) first v l 0 n) same
    ∙ parts_are (terms_of columns) f first n mine there inside v none counts (map (λ doc. values_of doc found) docs) (each_list docs) long all_none counted
  where
    each_list : (ds : List ℕ) → Each (Each (IsOf (terms_of columns) f)) (map (λ doc. values_of doc found) ds)
    each_list [] = tt
    each_list (d ∷ ds) = (ordinals_of columns f d found are is, each_list ds)

    same_at : (z n k : ℕ) → get_or (replicate n z) k z ≡ z
    same_at z zero k = refl
    same_at z (suc n) zero = refl
    same_at z (suc n) (suc k) = same_at z n k

-- ---- the same by sorted ordinals, each document's different ones

module _ (columns : Columns) (f : ℕ) (found : List (ℕ × List ℕ)) (docs : List ℕ) (are : AreColumns columns) (is : column_of f columns.ordinals ≡ Some found) where
  abbrev pub different : List ℕ
  different = flat_map (λ doc. once_by nat_cmp (values_of doc found)) docs

  pub ordinals_within : (terms : TermList) (ordinals : List ℕ) → terms ≡ terms_of columns → IsPermutation different ordinals → Each (λ (ordinal : ℕ). ordinal < length terms) ordinals
  ordinals_within terms ordinals own same =
      recursion_from_All (λ (ordinal : ℕ). ordinal < length terms) ordinals
      (All-permutation (λ (ordinal : ℕ). ordinal < length terms) different ordinals same (All-from_recursion (λ (ordinal : ℕ). ordinal < length terms) different (each docs)))
    where
      inside : (ordinal : ℕ) → IsOf (terms_of columns) f ordinal → ordinal < length terms
      inside ordinal of = subst (λ (t : TermList). ordinal < length t) (sym own) (within_list (terms_of columns) f ordinal of)

      appended : (xs ys : List ℕ) → Each (λ (ordinal : ℕ). ordinal < length terms) xs → Each (λ (ordinal : ℕ). ordinal < length terms) ys → Each (λ (ordinal : ℕ). ordinal < length terms) (xs ++ ys)
      appended [] ys h g = g
      appended (x ∷ xs) ys h g = (h.0, appended xs ys h.1 g)

      each : (ds : List ℕ) → Each (λ (ordinal : ℕ). ordinal < length terms) (flat_map (λ doc. once_by nat_cmp (values_of doc found)) ds)
      each [] = tt
      each (d ∷ ds) =
          appended (once_by nat_cmp (values_of d found)) (flat_map (λ doc. once_by nat_cmp (values_of doc found)) ds)
          (once_each is_one (λ (ordinal : ℕ). ordinal < length terms) None (values_of d found) (each_as (IsOf (terms_of columns) f) (λ (ordinal : ℕ). ordinal < length terms) inside (values_of d found) (ordinals_of columns f d found are is)))
          (each ds)

  pub ordinals_counted : AreRows nat_cmp found → (terms : TermList) → terms ≡ terms_of columns → AreAscending terms → (first end : ℕ) → first ≤ end → end ≤ length terms → IsRange (is_of_field f) terms first end
      → (ordinals : List ℕ) → IsPermutation different ordinals → (v : FieldValue)
      → count_by (is_term terms v) ordinals ≡ count_by (λ own. list_any (is_same_value v) (map Written (map (bytes_at (terms_of columns)) own))) (map (λ doc. values_of doc found) docs)
  ordinals_counted rows terms own up first end ordered within range ordinals same v =
      let n : ℕ = end - first in
      let whole : first + n ≡ end = omega (arith, ordered) in
      let mine : AreAscending (terms_of columns) = subst AreAscending own up in
      let there : IsRange (is_of_field f) (terms_of columns) first (first + n) = subst (λ (e : ℕ). IsRange (is_of_field f) (terms_of columns) first e) (sym whole) (subst (λ (t : TermList). IsRange (is_of_field f) t first end) own range) in
      let inside : first + n ≤ length (terms_of columns) = omega (arith, within, ap (λ (t : TermList). length t) own, whole) in
      let shown : List ℕ → Bool = λ ordinals. list_any (is_same_value v) (map Written (map (bytes_at (terms_of columns)) ordinals)) in
      ap (λ (t : TermList). count_by (is_term t v) ordinals) own
      ∙ count_permuted (is_term (terms_of columns) v) different ordinals same
      ∙ count_flat (is_term (terms_of columns) v) (λ doc. once_by nat_cmp (values_of doc found)) docs
      ∙ sum_same (λ doc. count_by (is_term (terms_of columns) v) (once_by nat_cmp (values_of doc found))) (one_if (λ doc. shown (values_of doc found)))
      (λ doc. once_term (terms_of columns) f first n mine there inside v (values_of doc found) (ordinals_of columns f doc found are is) (column_sorted nat_cmp doc found rows)) docs
      ∙ sym (count_mapped shown (λ doc. values_of doc found) docs)
