-- The positions of a word in a document, and the documents of postings.
use Rattle.std.proofs.Common.{◌≡◌, ◌∙◌, inl, inr, ℕ, ℤ, ◌<◌, Bool, true, false, IsTrue, ◌&&◌, List, [], length, map, get_or, slice_get, Option, Some, None, All, Contains, refl, sym, ap, subst, arith}
use Rattle.std.specs.Prelude.{◌==◌, nat_lt, slice_index_or}
use Rattle.std.specs.List.{list_any}
use Rattle.std.specs.Str.{bytes_eq}
use Rattle.std.proofs.lemmas.Bool.{false≢true, and_parts, and_from, cases_lt}
use Rattle.std.proofs.lemmas.Bool.Decides.{Decides-eqb}
use Rattle.std.proofs.lemmas.List.{get_or_past, length-map}
use Rattle.std.proofs.lemmas.List.Elements.{All-nil}
use Rattle.std.proofs.lemmas.Option.{slice_get_cases, same_Some}
use Rattle.std.proofs.lemmas.Slice.Eq.{bytes_eq-Decides}
use Rattle.doc_values.specs.Values.{values_of}
use Rattle.term_table.specs.Keys.{number_key}
use Rattle.term_table.specs.declared.rows.TermRow.{TermRow}
use Rattle.segment_parts.specs.Fields.{column_of}
use Rattle.segment_parts.specs.Lists.{terms_of, postings_of}
use Rattle.segment_parts.specs.Parts.{IsPresence}
use Rattle.segment_parts.specs.Agree.{AreWithin, IsTermOf, AreColumns}
use Rattle.segment.specs.Flat.{flat_of}
use Rattle.segment.specs.Shows.{is_word_at, has_word_at}
use Rattle.segment_parts.specs.declared.columns.Columns.{Columns}
use Rattle.segment_parts.specs.Keyed.{one_ordinal}
use Rattle.segment_parts.specs.Passes.{all_at}
use Rattle.segment.proofs.Flats.{split, passing, any_at, contained, same_test, any-map, any-filter, row_of, contained_some, column_found, some_is}
use Rattle.segment.proofs.FlatTerms.{term_row, row_term}

-- the test of a flat document's words, over the terms
abbrev word_at_in : ℕ → List ℕ → ℕ → (ℕ → Bool) → TermRow → Bool
word_at_in field word doc test row =
    nat_lt 0 (length (values_of doc row.postings)) && (((row.term.0 == field) && bytes_eq row.term.1 word) && list_any test (values_of doc row.postings))

word_at_over : (c : Columns) (field doc : ℕ) (word : List ℕ) (test : ℕ → Bool) → has_word_at field word test (flat_of c doc) ≡ list_any (word_at_in field word doc test) c.terms
unfolding has_word_at
word_at_over c field doc word test =
    let own : TermRow → (ℕ × List ℕ) × List ℕ = λ row. (row.term, values_of doc row.postings) in
    let some : (ℕ × List ℕ) × List ℕ → Bool = λ word. nat_lt 0 (length word.1) in
    any-filter some (is_word_at field word test) (map own c.terms)
    ∙ any-map (λ w. some w && is_word_at field word test w) own c.terms

term_is : (term : ℕ × List ℕ) (field : ℕ) (word : List ℕ) → term.0 ≡ field → term.1 ≡ word → term ≡ (field, word)
term_is term field word own same = ap (λ (f : ℕ). (f, term.1)) own ∙ ap (λ (w : List ℕ). (field, w)) same

-- a term that has the word in the document
pub record IsWordRow (c : Columns) (field doc : ℕ) (word : List ℕ) (test : ℕ → Bool) : Type 0 where
  pub at : ℕ
  pub row : TermRow
  pub is : slice_get c.terms at ≡ Some row
  pub own : row.term ≡ (field, word)
  pub passes : list_any test (values_of doc row.postings) ≡ true

word_row : (c : Columns) (field doc : ℕ) (word : List ℕ) (test : ℕ → Bool) → list_any (word_at_in field word doc test) c.terms ≡ true → IsWordRow c field doc word test
word_row c field doc word test holds =
    let found = passing (word_at_in field word doc test) c.terms holds in
    let row = found.own in
    let positions = list_any test (values_of doc row.postings) in
    let parts = and_parts (nat_lt 0 (length (values_of doc row.postings))) (((row.term.0 == field) && bytes_eq row.term.1 word) && positions) found.passes in
    let inner = and_parts ((row.term.0 == field) && bytes_eq row.term.1 word) positions parts.1 in
    let term = and_parts (row.term.0 == field) (bytes_eq row.term.1 word) inner.0 in
    record {
      at = found.at;
      row = row;
      is = found.is;
      own = term_is row.term field word ((Decides-eqb row.term.0 field).0 term.0) ((bytes_eq-Decides row.term.1 word).0 term.1);
      passes = inner.1;
    }

pub positions_shown : (c : Columns) (field doc ordinal : ℕ) (word : List ℕ) (test : ℕ → Bool) → AreColumns c → slice_get (terms_of c) ordinal ≡ Some (field, word) → has_word_at field word test (flat_of c doc) ≡ list_any test (values_of doc (slice_index_or (postings_of c) ordinal []))
positions_shown c field doc ordinal word test are is =
    let at = term_row c.terms ordinal (field, word) is in
    let positions = values_of doc at.row.postings in
    word_at_over c field doc word test
    ∙ same_test (list_any (word_at_in field word doc test) c.terms) (list_any test positions)
    (λ holds.
    let found = word_row c field doc word test holds in
    let one : found.at ≡ ordinal = one_ordinal (terms_of c) found.at ordinal (field, word) are.parts.terms_are.ascending (row_term c.terms found.at found.row found.is ∙ ap Some found.own) is in
    let same : found.row ≡ at.row = same_Some found.row at.row (sym found.is ∙ ap (slice_get c.terms) one ∙ at.is) in
    subst (λ (row : TermRow). list_any test (values_of doc row.postings) ≡ true) same found.passes)
    (λ holds.
    let there = passing test positions holds in
    let some : nat_lt 0 (length positions) ≡ true = some_is (length positions) (contained_some positions there.own (contained positions there.at there.own there.is)) in
    let own : (at.row.term.0 == field) ≡ true = (Decides-eqb at.row.term.0 field).1 (ap (λ (t : ℕ × List ℕ). t.0) at.own) in
    let bytes : bytes_eq at.row.term.1 word ≡ true = (bytes_eq-Decides at.row.term.1 word).1 (ap (λ (t : ℕ × List ℕ). t.1) at.own) in
    any_at (word_at_in field word doc test) c.terms ordinal at.row at.is
    (and_from (nat_lt 0 (length positions)) (((at.row.term.0 == field) && bytes_eq at.row.term.1 word) && list_any test positions) some
    (and_from ((at.row.term.0 == field) && bytes_eq at.row.term.1 word) (list_any test positions) (and_from (at.row.term.0 == field) (bytes_eq at.row.term.1 word) own bytes) holds)))
    ∙ ap (λ (ps : List (ℕ × List ℕ)). list_any test (values_of doc ps)) (sym at.postings)

pub no_positions_shown : (c : Columns) (field doc : ℕ) (word : List ℕ) (test : ℕ → Bool) → (Contains (terms_of c) (field, word) → ⊥) → has_word_at field word test (flat_of c doc) ≡ false
no_positions_shown c field doc word test never =
    word_at_over c field doc word test
    ∙ elim (split (list_any (word_at_in field word doc test) c.terms)) [
      | inl holds ↦
          let found = word_row c field doc word test holds in
          absurd (never (contained (terms_of c) found.at (field, word) (row_term c.terms found.at found.row found.is ∙ ap Some found.own)))
      | inr fails ↦ fails
    ]

-- ---- the documents of postings are there

marked_within : (flags : List Bool) (doc : ℕ) → IsTrue (slice_index_or flags doc false) → doc < length flags
marked_within flags doc holds = elim (cases_lt doc (length flags)) [
  | inl inside ↦ inside
  | inr past ↦ absurd (false≢true (sym (get_or_past flags doc false past) ∙ holds))
]

row_within : {X : Type 0} (documents doc : ℕ) (rows : List (ℕ × List X)) → AreWithin documents rows → 0 < length (values_of doc rows) → doc < documents
row_within {X} documents doc rows within some =
    let row = row_of doc rows some in
    subst (λ d. d < documents) row.own (all_at (λ (r : ℕ × List X). r.0 < documents) rows row.at row.row within row.is)

postings_within : (documents : ℕ) (present : Option (List Bool)) (ordinals : Option (List (ℕ × List ℕ))) (numbers : Option (List (ℕ × List ℤ))) (ordinal : ℕ) (bytes : List ℕ) (postings : List (ℕ × List ℕ))
    → ((flags : List Bool) → present ≡ Some flags → length flags ≡ documents)
    → ((rows : List (ℕ × List ℕ)) → ordinals ≡ Some rows → AreWithin documents rows)
    → ((rows : List (ℕ × List ℤ)) → numbers ≡ Some rows → AreWithin documents rows)
    → IsTermOf present ordinals numbers ordinal bytes postings → All (λ (posting : ℕ × List ℕ). posting.0 < documents) postings
postings_within documents (Some flags) ordinals numbers ordinal bytes postings long own others is = λ k d below.
    let marked : (get_or postings k d).0 < length flags = marked_within flags (get_or postings k d).0 (is k d below).valued in
    omega (arith, marked, long flags refl)
postings_within documents None (Some rows) numbers ordinal bytes postings long own others is = λ k d below.
    let doc = (get_or postings k d).0 in
    row_within documents doc rows (own rows refl) (contained_some (values_of doc rows) ordinal (is k d below).valued)
postings_within documents None None (Some rows) ordinal bytes postings long own others is = λ k d below.
    let doc = (get_or postings k d).0 in
    let some : 0 < length (map number_key (values_of doc rows)) = contained_some (map number_key (values_of doc rows)) bytes (is k d below).valued in
    row_within documents doc rows (others rows refl) (omega (arith, some, length-map (values_of doc rows) number_key))
postings_within documents None None None ordinal bytes postings long own others is = absurd is

pub within_shown : (c : Columns) (ordinal : ℕ) → AreColumns c → All (λ (posting : ℕ × List ℕ). posting.0 < c.documents) (slice_index_or (postings_of c) ordinal [])
within_shown c ordinal are =
    let Below : ℕ × List ℕ → Type 0 = λ posting. posting.0 < c.documents in
    elim (slice_get_cases c.terms ordinal).1 [
      | inl own ↦
          let row = own.0 in
          let at = are.terms.terms ordinal row.term (row_term c.terms ordinal row own.2) in
          postings_within c.documents (column_of row.term.0 c.present) (column_of row.term.0 c.ordinals) (column_of row.term.0 c.numbers) ordinal row.term.1 (slice_index_or (postings_of c) ordinal [])
          (λ flags found. let column = column_found row.term.0 flags c.present found in ap length (sym column.same) ∙ (all_at (IsPresence c.documents) c.present column.at column.column are.parts.present_are.each column.is).long)
          (λ rows found. let column = column_found row.term.0 rows c.ordinals found in subst (AreWithin c.documents) column.same (all_at (λ (own : ℕ × List (ℕ × List ℕ)). AreWithin c.documents own.1) c.ordinals column.at column.column are.fields.ordinals_within column.is))
          (λ rows found. let column = column_found row.term.0 rows c.numbers found in subst (AreWithin c.documents) column.same (all_at (λ (own : ℕ × List (ℕ × List ℤ)). AreWithin c.documents own.1) c.numbers column.at column.column are.fields.numbers_within column.is))
          at.is
      | inr past ↦
          let none : slice_index_or (postings_of c) ordinal [] ≡ [] = get_or_past (postings_of c) ordinal [] (omega (arith, past.0, length-map c.terms (λ (row : TermRow). row.postings))) in
          subst (All Below) (sym none) (All-nil Below)
    ]
