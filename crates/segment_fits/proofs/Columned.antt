-- What the columns say of a document, and what its rows say of the columns.
use Rattle.std.proofs.Common.{◌≡◌, ℕ, zero, suc, ◌<◌, ◌==◌, nat_lt, Bool, true, false, List, [], ◌∷◌, length, map, filter, get_or, Option, Some, None, refl, sym, ap, subst, ◌∙◌, arith, eqb-true, eq-eqb}
use Rattle.std.specs.Prelude.{ℤ}
use Rattle.std.specs.List.{All, AllByRecursion}
use Rattle.std.proofs.lemmas.Bool.{false≢true, true≢false}
use Rattle.std.proofs.lemmas.Bool.Decides.{nat_tests}
use Rattle.std.proofs.lemmas.List.{get_or-map, length-map}
use Rattle.std.proofs.lemmas.List.Elements.{recursion_from_All}
use Rattle.doc_values.specs.Values.{documents, values_of}
use Rattle.mapping_body.proofs.Walks.{split}
use Rattle.segment.specs.Flat.{values_at, words_at}
use Rattle.segment_parts.specs.Agree.{IsTermOf}
use Rattle.segment_parts.specs.Fields.{column_of}
use Rattle.term_table.specs.declared.rows.TermRow.{TermRow}

lt_true : (a b : ℕ) → a < b → nat_lt a b ≡ true
lt_true a b h = grind (arith, nat_tests)

-- ---- rows

-- a document with values has a row
pub row_of : {X : Type 0} (doc : ℕ) (rows : List (ℕ × List X)) → nat_lt 0 (length (values_of doc rows)) ≡ true → (k : ℕ) × (k < length rows) × (get_or (documents rows) k 0 ≡ doc)
row_of doc [] some = absurd (false≢true some)
row_of doc (row ∷ rows) some =
    split (row.0 == doc)
    (λ here. (0, omega arith, eqb-true row.0 doc here))
    (λ further. let rest = row_of doc rows (rw further at some) in (suc rest.0, omega (arith, rest.1), rest.2))

-- a document with a row has values
pub some_at : {X : Type 0} (rows : List (ℕ × List X)) (k : ℕ) → AllByRecursion (λ (row : ℕ × List X). 0 < length row.1) rows → k < length rows → nat_lt 0 (length (values_of (get_or (documents rows) k 0) rows)) ≡ true
some_at [] k all h = absurd (omega (arith, h))
some_at (row ∷ rows) zero all h =
    let same : (row.0 == row.0) ≡ true = eq-eqb row.0 row.0 refl in
    rw same (lt_true 0 (length row.1) all.0)
some_at (row ∷ rows) (suc k) all h =
    split (row.0 == get_or (documents rows) k 0)
    (λ here. rw here (lt_true 0 (length row.1) all.0))
    (λ further. rw further (some_at rows k all.1 (omega (arith, h))))

-- rows without values
none_at : {X : Type 0} (doc : ℕ) (rows : List (ℕ × List X)) → AllByRecursion (λ (row : ℕ × List X). length row.1 ≡ 0) rows → nat_lt 0 (length (values_of doc rows)) ≡ true → ⊥
none_at doc [] all some = false≢true some
none_at doc (row ∷ rows) all some =
    split (row.0 == doc)
    (λ here. let own : nat_lt 0 (length row.1) ≡ true = rw here at some in false≢true (sym (ap (nat_lt 0) all.0) ∙ own))
    (λ further. none_at doc rows all.1 (rw further at some))

module _ (Q : ℕ → ℕ → Type 0) where
  -- ---- columns of values

  -- each row's document has what its field asks
  abbrev pub OfRows : {X : Type 0} → ℕ × List (ℕ × List X) → Type 0
  OfRows {X} column = (row : ℕ) → row < length column.1 → Q column.0 (get_or (documents column.1) row 0)

  pub to_values : {X : Type 0} (doc : ℕ) (columns : List (ℕ × List (ℕ × List X))) → AllByRecursion OfRows columns → AllByRecursion (λ (pair : ℕ × List X). Q pair.0 doc) (values_at doc columns)
  to_values doc [] all = tt
  to_values doc (column ∷ columns) all =
      split (nat_lt 0 (length (values_of doc column.1)))
      (λ some.
      let row = row_of doc column.1 some in
      rw some (subst (Q column.0) row.2 (all.0 row.0 row.1), to_values doc columns all.1))
      (λ none. rw none (to_values doc columns all.1))

  values_tail : {X : Type 0} (doc : ℕ) (column : ℕ × List (ℕ × List X)) (columns : List (ℕ × List (ℕ × List X))) → AllByRecursion (λ (pair : ℕ × List X). Q pair.0 doc) (values_at doc (column ∷ columns))
      → AllByRecursion (λ (pair : ℕ × List X). Q pair.0 doc) (values_at doc columns)
  values_tail {X} doc column columns all =
      split (nat_lt 0 (length (values_of doc column.1)))
      (λ some.
      let both : Q column.0 doc × AllByRecursion (λ (pair : ℕ × List X). Q pair.0 doc) (values_at doc columns) = rw some at all in both.1)
      (λ none. rw none at all)

  values_head : {X : Type 0} (doc : ℕ) (column : ℕ × List (ℕ × List X)) (columns : List (ℕ × List (ℕ × List X))) → nat_lt 0 (length (values_of doc column.1)) ≡ true
      → AllByRecursion (λ (pair : ℕ × List X). Q pair.0 doc) (values_at doc (column ∷ columns)) → Q column.0 doc
  values_head {X} doc column columns some all =
      let both : Q column.0 doc × AllByRecursion (λ (pair : ℕ × List X). Q pair.0 doc) (values_at doc columns) = rw some at all in both.0

  -- columns of so many documents, with a value or more in each row
  pub record AreFull {X : Type 0} (count : ℕ) (column : ℕ × List (ℕ × List X)) : Type 0 where
    pub some : AllByRecursion (λ (row : ℕ × List X). 0 < length row.1) column.1
    pub within : All (λ (doc : ℕ). doc < count) (documents column.1)

  pub from_values : {X : Type 0} (count : ℕ) (columns : List (ℕ × List (ℕ × List X))) → AllByRecursion (AreFull count) columns
      → ((doc : ℕ) → doc < count → AllByRecursion (λ (pair : ℕ × List X). Q pair.0 doc) (values_at doc columns)) → AllByRecursion OfRows columns
  from_values count [] full each = tt
  from_values {X} count (column ∷ columns) full each = (
    (λ row h.
        let doc = get_or (documents column.1) row 0 in
        let long : row < length (documents column.1) = omega (arith, h, length-map column.1 (λ (r : ℕ × List X). r.0)) in
        values_head doc column columns (some_at column.1 row full.0.some h) (each doc (full.0.within row 0 long))),
    from_values count columns full.1 (λ doc h. values_tail doc column columns (each doc h)),
  )

  -- ---- the columns of text fields

  abbrev pub OfMark : ℕ → ℕ × List Bool → Type 0
  OfMark doc column = get_or column.1 doc false ≡ true → Q column.0 doc

  abbrev pub texts_at : ℕ → List (ℕ × List Bool) → List ℕ
  texts_at doc columns = map (λ (column : ℕ × List Bool). column.0) (filter (λ (column : ℕ × List Bool). get_or column.1 doc false) columns)

  pub to_texts : (doc : ℕ) (columns : List (ℕ × List Bool)) → AllByRecursion (OfMark doc) columns → AllByRecursion (λ (field : ℕ). Q field doc) (texts_at doc columns)
  to_texts doc [] all = tt
  to_texts doc (column ∷ columns) all =
      split (get_or column.1 doc false)
      (λ set. rw set (all.0 set, to_texts doc columns all.1))
      (λ unset. rw unset (to_texts doc columns all.1))

  pub from_texts : (doc : ℕ) (columns : List (ℕ × List Bool)) → AllByRecursion (λ (field : ℕ). Q field doc) (texts_at doc columns) → AllByRecursion (OfMark doc) columns
  from_texts doc [] all = tt
  from_texts doc (column ∷ columns) all =
      split (get_or column.1 doc false)
      (λ set.
      let both : Q column.0 doc × AllByRecursion (λ (field : ℕ). Q field doc) (texts_at doc columns) = rw set at all in
      (λ _. both.0, from_texts doc columns both.1))
      (λ unset. (λ set. absurd (true≢false (sym set ∙ unset)), from_texts doc columns (rw unset at all)))

  -- the flag of a field's column
  column_flag : (field doc : ℕ) (columns : List (ℕ × List Bool)) (flags : List Bool) → AllByRecursion (OfMark doc) columns → column_of field columns ≡ Some flags → get_or flags doc false ≡ true → Q field doc
  column_flag field doc [] flags all is set = absurd (cc (is))
  column_flag field doc (column ∷ columns) flags all is set =
      split (column.0 == field)
      (λ here.
      let own : Some column.1 ≡ Some flags = rw here at is in
      let same : flags ≡ column.1 = cc (own) in
      subst (λ (f : ℕ). Q f doc) (eqb-true column.0 field here) (all.0 (ap (λ (fs : List Bool). get_or fs doc false) (sym same) ∙ set)))
      (λ further. column_flag field doc columns flags all.1 (rw further at is) set)

  -- ---- words: their documents have a value of their field

  word_shown : (field doc : ℕ) (present : Option (List Bool)) (rows : Option (List (ℕ × List ℕ))) (numbers : Option (List (ℕ × List ℤ))) (ordinal : ℕ) (bytes : List ℕ) (postings : List (ℕ × List ℕ))
      → ((flags : List Bool) → present ≡ Some flags → get_or flags doc false ≡ true → Q field doc)
      → IsTermOf present rows numbers ordinal bytes postings → nat_lt 0 (length (values_of doc postings)) ≡ true → Q field doc
  word_shown field doc (Some flags) rows numbers ordinal bytes postings shown is some =
      let row = row_of doc postings some in
      let word = is row.0 (0, []) row.1 in
      let at : (get_or postings row.0 (0, [])).0 ≡ doc = sym (get_or-map (λ (p : ℕ × List ℕ). p.0) postings row.0 (0, []) 0 row.1) ∙ row.2 in
      shown flags refl (ap (λ (d : ℕ). get_or flags d false) (sym at) ∙ word.valued)
  word_shown field doc None (Some rows) numbers ordinal bytes postings shown is some =
      absurd (none_at doc postings (recursion_from_All (λ (p : ℕ × List ℕ). length p.1 ≡ 0) postings (λ k d h. (is k d h).positions)) some)
  word_shown field doc None None (Some numbers) ordinal bytes postings shown is some =
      absurd (none_at doc postings (recursion_from_All (λ (p : ℕ × List ℕ). length p.1 ≡ 0) postings (λ k d h. (is k d h).positions)) some)
  word_shown field doc None None None ordinal bytes postings shown is some = absurd is

  abbrev pub OfWord : ℕ → TermRow → Type 0
  OfWord doc row = nat_lt 0 (length (values_of doc row.postings)) ≡ true → Q row.term.0 doc

  pub to_words : (doc : ℕ) (rows : List TermRow) → AllByRecursion (OfWord doc) rows → AllByRecursion (λ (word : (ℕ × List ℕ) × List ℕ). Q word.0.0 doc) (words_at doc rows)
  to_words doc [] all = tt
  to_words doc (row ∷ rows) all =
      split (nat_lt 0 (length (values_of doc row.postings)))
      (λ some. rw some (all.0 some, to_words doc rows all.1))
      (λ none. rw none (to_words doc rows all.1))

  pub word_of : (doc : ℕ) (row : TermRow) (columns : List (ℕ × List Bool)) (rows : Option (List (ℕ × List ℕ))) (numbers : Option (List (ℕ × List ℤ))) (ordinal : ℕ)
      → AllByRecursion (OfMark doc) columns → IsTermOf (column_of row.term.0 columns) rows numbers ordinal row.term.1 row.postings → OfWord doc row
  word_of doc row columns rows numbers ordinal all is some =
      word_shown row.term.0 doc (column_of row.term.0 columns) rows numbers ordinal row.term.1 row.postings (λ flags found set. column_flag row.term.0 doc columns flags all found set) is some
