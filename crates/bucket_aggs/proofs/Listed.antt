-- Documents counted by the postings of terms.
use Rattle.std.proofs.Common.{◌≡◌, ℕ, zero, suc, ◌+◌, ◌-◌, ◌==◌, ◌<◌, ◌≤◌, Bool, true, false, ◌&&◌, cond, List, [], ◌∷◌, length, map, drop, get_or, slice_get, count_by, replicate, Option, Some, None, refl, sym, ap, subst, ◌∙◌, arith}
use Rattle.std.specs.Prelude.{IsNone, IsSomeAnd}
use Rattle.std.specs.List.{All}
use Rattle.std.specs.List.Sorted.{IsStrictlyIncreasing}
use Rattle.std.proofs.lemmas.Bool.{eq-eqb, eqb-true}
use Rattle.std.proofs.lemmas.List.{length-replicate}
use Rattle.std.proofs.lemmas.List.Elements.{recursion_from_All}
use Rattle.std.proofs.lemmas.Option.{same_Some}
use Rattle.doc_values.specs.Values.{documents as row_documents, values_of}
use Rattle.postings.specs.Marks.{has_document}
use Rattle.postings.specs.Postings.{ArePostings, documents, present_document}
use Rattle.segment_parts.specs.Agree.{AreColumns, HaveOrdinals, IsKeywordAt, IsOrdinalAt, IsTermAt, IsTermOf}
use Rattle.segment_parts.specs.Fields.{column_of}
use Rattle.segment_parts.specs.Lists.{postings_of, terms_of}
use Rattle.segment_parts.specs.Text.{marked_places}
use Rattle.segment_parts.specs.declared.columns.Columns.{Columns}
use Rattle.term_table.specs.Ranges.{IsRange, is_of_field}
use Rattle.term_table.specs.Terms.{AreAscending}
use Rattle.bucket_aggs.specs.Counts.{Counted, has_ordinal, is_posted}
use Rattle.query_ast.proofs.Elements.{Each, by_test, each_as}
use Rattle.bucket_aggs.proofs.Rowed.{ColumnRows, count_cons, count_mapped, count_same, row_counts, rows_ascend, rows_counted}
use Rattle.bucket_aggs.proofs.Termed.{IsOf, TermList, column_has, of_range, values_have}

abbrev pub Postings : Type 0
Postings = List (ℕ × List ℕ)

-- ---- a document among postings

same_tests : (a b : Bool) → (a ≡ true → b ≡ true) → (b ≡ true → a ≡ true) → a ≡ b
same_tests true b on back = sym (on refl)
same_tests false true on back = back refl
same_tests false false on back = refl

contains_has : (o k : ℕ) (xs : List ℕ) → k < length xs → get_or xs k o ≡ o → has_ordinal o xs ≡ true
contains_has o k [] low is = absurd (omega (arith, low))
contains_has o zero (x ∷ xs) low is = let same : (x == o) ≡ true = eq-eqb x o is in rw same refl
contains_has o (suc k) (x ∷ xs) low is = by_test (x == o) (λ held. rw held refl) (λ failed. rw failed (contains_has o k xs (omega (arith, low)) is))

posted_has : (doc k : ℕ) (ps : Postings) → k < length (documents ps) → get_or (documents ps) k doc ≡ doc → has_document doc ps ≡ true
posted_has doc k [] low is = absurd (omega (arith, low))
posted_has doc zero (p ∷ ps) low is = let same : (p.0 == doc) ≡ true = eq-eqb p.0 doc is in rw same refl
posted_has doc (suc k) (p ∷ ps) low is = by_test (p.0 == doc) (λ held. rw held refl) (λ failed. rw failed (posted_has doc k ps (omega (arith, low)) is))

-- a posting's document has the ordinal, and a document that has it is posted
has_own : (rows : ColumnRows) (o doc : ℕ) (ps : Postings) → Each (IsKeywordAt rows o) ps → has_document doc ps ≡ true → has_ordinal o (values_of doc rows) ≡ true
has_own rows o doc [] all has = absurd (let no : ⊥ = cc in no)
has_own rows o doc (p ∷ ps) all has =
    by_test (p.0 == doc)
    (λ held. subst (λ (d : ℕ). has_ordinal o (values_of d rows) ≡ true) (eqb-true p.0 doc held) (contains_has o all.0.valued.0 (values_of p.0 rows) all.0.valued.1 all.0.valued.2))
    (λ failed. has_own rows o doc ps all.1 (rw failed at has))

is_own : (terms : TermList) (lists : List Postings) (f o doc : ℕ) (values : List ℕ) → Each (IsOrdinalAt terms lists f doc) values → has_ordinal o values ≡ true → has_document doc (get_or lists o []) ≡ true
is_own terms lists f o doc [] all has = absurd (let no : ⊥ = cc in no)
is_own terms lists f o doc (x ∷ values) all has =
    by_test (x == o)
    (λ held. subst (λ (i : ℕ). has_document doc (get_or lists i []) ≡ true) (eqb-true x o held) (posted_has doc all.0.posted.0 (get_or lists x []) all.0.posted.1 all.0.posted.2))
    (λ failed. is_own terms lists f o doc values all.1 (rw failed at has))

-- ---- posting by posting

pub present_step : (flags : List Bool) (ps : Postings) (at doc : ℕ) → Some doc ≡ present_document (record { postings = ps; at = at })
    → (at < length ps) × (count_by (is_posted flags) (drop at ps) ≡ cond (get_or flags doc false) 1 0 + count_by (is_posted flags) (drop (at + 1) ps))
present_step flags [] at doc is = absurd (let no : ⊥ = cc in no)
present_step flags (p ∷ ps) zero doc is =
    (omega arith, count_cons (is_posted flags) p ps ∙ ap (λ (d : ℕ). cond {A = ℕ} (get_or flags d false) 1 0 + count_by (is_posted flags) ps) (sym (same_Some doc p.0 is)))
present_step flags (p ∷ ps) (suc at) doc is =
    let next : suc at + 1 ≡ suc (at + 1) = omega arith in
    let step = present_step flags ps at doc is in
    (omega (arith, step.0), rw next step.1)

pub present_end : (flags : List Bool) (ps : Postings) (at : ℕ) → None ≡ present_document (record { postings = ps; at = at }) → count_by (is_posted flags) (drop at ps) ≡ 0
present_end flags [] zero is = refl
present_end flags [] (suc at) is = refl
present_end flags (p ∷ ps) zero is = absurd (let no : ⊥ = cc in no)
present_end flags (p ∷ ps) (suc at) is = present_end flags ps at is

-- ---- postings as rows, each with the ordinal alone

abbrev pub as_row : ℕ → ℕ × List ℕ → ℕ × List ℕ
as_row o posting = (posting.0, o ∷ [])

abbrev pub as_rows : ℕ → Postings → ColumnRows
as_rows o ps = map (as_row o) ps

pub same_documents : (o : ℕ) (ps : Postings) → documents ps ≡ row_documents (as_rows o ps)
same_documents o [] = refl
same_documents o (p ∷ ps) = ap (λ (l : List ℕ). p.0 ∷ l) (same_documents o ps)

pub rows_have : (o doc : ℕ) (ps : Postings) → has_ordinal o (values_of doc (as_rows o ps)) ≡ has_document doc ps
rows_have o doc [] = refl
rows_have o doc (p ∷ ps) =
    by_test (p.0 == doc)
    (λ held. let itself : (o == o) ≡ true = eq-eqb o o refl in rw (held, itself) refl)
    (λ failed. rw failed (rows_have o doc ps))

pub row_is : (o : ℕ) (flags : List Bool) (p : ℕ × List ℕ) → row_counts (has_ordinal o) refl flags (as_row o p) ≡ is_posted flags p
row_is o flags p = let itself : (o == o) ≡ true = eq-eqb o o refl in rw itself (by (get_or flags p.0 false))
  where
    by : (b : Bool) → (b && true) ≡ b
    by true = refl
    by false = refl

module _ (columns : Columns) (f : ℕ) (found : ColumnRows) (flags : List Bool) (are : AreColumns columns) (is : column_of f columns.ordinals ≡ Some found) where
  no_text : column_of f columns.present ≡ None
  no_text =
      none_of (column_of f columns.present)
      (column_has (λ (column : ℕ × ColumnRows). IsNone (column_of column.0 columns.numbers) × IsNone (column_of column.0 columns.present)) f found columns.ordinals
      (recursion_from_All (λ (column : ℕ × ColumnRows). IsNone (column_of column.0 columns.numbers) × IsNone (column_of column.0 columns.present)) columns.ordinals are.fields.ordinals_apart) is).1
    where
      none_of : {X : Type 0} (x : Option X) → IsNone x → x ≡ None
      none_of None h = refl
      none_of (Some y) h = absurd (let no : ⊥ = cc in no)

  keywords : (o : ℕ) → IsOf (terms_of columns) f o → Each (IsKeywordAt found o) (get_or (postings_of columns) o [])
  keywords o of = by (slice_get (terms_of columns) o) refl of
    where
      ps : Postings
      ps = get_or (postings_of columns) o []

      by : (x : Option (ℕ × List ℕ)) → slice_get (terms_of columns) o ≡ x → IsSomeAnd x (λ (term : ℕ × List ℕ). term.0 ≡ f) → Each (IsKeywordAt found o) ps
      by None own has = absurd has
      by (Some term) own has =
          let here : IsTermAt columns o term = are.terms.terms o term own in
          let of_field : IsTermOf (column_of f columns.present) (column_of f columns.ordinals) (column_of f columns.numbers) o term.1 ps =
          subst (λ (g : ℕ). IsTermOf (column_of g columns.present) (column_of g columns.ordinals) (column_of g columns.numbers) o term.1 ps) has here.is in
          let plain : IsTermOf None (Some found) (column_of f columns.numbers) o term.1 ps =
          subst (λ (rows : Option ColumnRows). IsTermOf None rows (column_of f columns.numbers) o term.1 ps) is
          (subst (λ (present : Option (List Bool)). IsTermOf present (column_of f columns.ordinals) (column_of f columns.numbers) o term.1 ps) no_text of_field) in
          recursion_from_All (IsKeywordAt found o) ps plain

  ordinals : (doc : ℕ) → Each (IsOrdinalAt (terms_of columns) (postings_of columns) f doc) (values_of doc found)
  ordinals doc =
      let own : HaveOrdinals (terms_of columns) (postings_of columns) (f, found) =
      column_has (HaveOrdinals (terms_of columns) (postings_of columns)) f found columns.ordinals (recursion_from_All (HaveOrdinals (terms_of columns) (postings_of columns)) columns.ordinals are.terms.ordinals) is in
      values_have (IsOrdinalAt (terms_of columns) (postings_of columns) f) doc found
      (each_as (λ (row : ℕ × List ℕ). All (IsOrdinalAt (terms_of columns) (postings_of columns) f row.0) row.1) (λ (row : ℕ × List ℕ). Each (IsOrdinalAt (terms_of columns) (postings_of columns) f row.0) row.1)
      (λ row all. recursion_from_All (IsOrdinalAt (terms_of columns) (postings_of columns) f row.0) row.1 all) found
      (recursion_from_All (λ (row : ℕ × List ℕ). All (IsOrdinalAt (terms_of columns) (postings_of columns) f row.0) row.1) found own))

  pub posted_same : (o : ℕ) → IsOf (terms_of columns) f o → (doc : ℕ) → has_ordinal o (values_of doc (as_rows o (get_or (postings_of columns) o []))) ≡ has_ordinal o (values_of doc found)
  posted_same o of doc =
      let ps : Postings = get_or (postings_of columns) o [] in
      rows_have o doc ps
      ∙ same_tests (has_document doc ps) (has_ordinal o (values_of doc found)) (has_own found o doc ps (keywords o of)) (is_own (terms_of columns) (postings_of columns) f o doc (values_of doc found) (ordinals doc))

  -- the postings of marked documents are as many as the marked documents with the ordinal
  pub posted_counted : (o : ℕ) → IsOf (terms_of columns) f o → ArePostings (get_or (postings_of columns) o []) → count_by (is_posted flags) (get_or (postings_of columns) o []) ≡ count_by (has_ordinal o) (map (λ doc. values_of doc found) (marked_places 0 flags))
  posted_counted o of posted =
      let ps : Postings = get_or (postings_of columns) o [] in
      let up : IsStrictlyIncreasing (row_documents (as_rows o ps)) = subst IsStrictlyIncreasing (same_documents o ps) posted.documents_are.ascending in
      sym (count_mapped (row_counts (has_ordinal o) refl flags) (as_row o) ps ∙ count_same (λ p. row_counts (has_ordinal o) refl flags (as_row o p)) (is_posted flags) (row_is o flags) ps)
      ∙ sym (rows_counted (has_ordinal o) refl flags (as_rows o ps) (rows_ascend (as_rows o ps) up))
      ∙ count_same (λ doc. has_ordinal o (values_of doc (as_rows o ps))) (λ doc. has_ordinal o (values_of doc found)) (posted_same o of) (marked_places 0 flags)
      ∙ sym (count_mapped (has_ordinal o) (λ doc. values_of doc found) (marked_places 0 flags))

  -- and so it is of all terms of the field
  pub terms_counted : (first end : ℕ) (counts : List ℕ) → AreAscending (terms_of columns) → first ≤ end → end ≤ length (terms_of columns) → IsRange (is_of_field f) (terms_of columns) first end → length counts ≡ end - first
      → ((k : ℕ) → k < end - first → get_or counts k 0 ≡ count_by (is_posted flags) (get_or (postings_of columns) (first + k) [])) → ((k : ℕ) → k < end - first → ArePostings (get_or (postings_of columns) (first + k) []))
      → Counted first (map (λ doc. values_of doc found) (marked_places 0 flags)) (replicate (end - first) 0) counts
  terms_counted first end counts up ordered within range long each posted =
      let n : ℕ = end - first in
      let whole : first + n ≡ end = omega (arith, ordered) in
      let there : IsRange (is_of_field f) (terms_of columns) first (first + n) = subst (λ (e : ℕ). IsRange (is_of_field f) (terms_of columns) first e) (sym whole) range in
      record {
        long = long ∙ sym (length-replicate {A = ℕ} n 0);
        each = λ k low.
            let inside : k < n = omega (arith, low, length-replicate {A = ℕ} n 0) in
            omega (
              arith,
              each k inside,
              posted_counted (first + k) (of_range (terms_of columns) f first n up there (omega (arith, within, whole)) k inside) (posted k inside),
              same_at 0 n k,
            );
      }
    where
      same_at : (z n k : ℕ) → get_or (replicate n z) k z ≡ z
      same_at z zero k = refl
      same_at z (suc n) zero = refl
      same_at z (suc n) (suc k) = same_at z n k
