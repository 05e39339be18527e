-- A document is among the postings of a term exactly where its flat document shows the term.
use Rattle.std.proofs.Common.{◌≡◌, ◌∙◌, ◌⊎◌, inl, inr, ℕ, zero, suc, ℤ, ◌<◌, Bool, true, ◌&&◌, ◌||◌, List, [], ◌∷◌, length, map, slice_get, Option, Some, None, All, Contains, refl, sym, ap, subst}
use Rattle.std.specs.Prelude.{◌==◌, nat_lt, slice_index_or, IsSomeAnd}
use Rattle.std.specs.List.{list_any}
use Rattle.std.specs.Option.{option_map}
use Rattle.std.proofs.lemmas.Bool.{and_parts, and_from, or_left, or_right, or_cases}
use Rattle.std.proofs.lemmas.Bool.Decides.{Decides-eqb}
use Rattle.std.proofs.lemmas.Option.{slice_get-map, get_or_from_slice_get, same_Some, none-some}
use Rattle.doc_values.specs.Values.{values_of}
use Rattle.postings.specs.Postings.{documents}
use Rattle.postings.specs.Marks.{has_document}
use Rattle.term_table.specs.Keys.{number_key}
use Rattle.term_table.specs.declared.rows.TermRow.{TermRow}
use Rattle.segment_parts.specs.Fields.{column_of}
use Rattle.segment_parts.specs.Lists.{terms_of, postings_of}
use Rattle.segment_parts.specs.Agree.{IsTermOf, IsKeywordAt, IsNumberAt, IsOrdinalAt, IsKeyed, HaveOrdinals, HaveKeys, HaveTerms, AreColumns}
use Rattle.segment.specs.Flat.{bytes_at, values_at, words_at, flat_of}
use Rattle.segment.specs.Shows.{is_keyword_of, is_number_of, is_word_of, has_term, posts}
use Rattle.segment_parts.specs.declared.columns.Columns.{Columns}
use Rattle.segment_parts.specs.Passes.{all_at}
use Rattle.segment.proofs.Flats.{IsPassing, passing, any_at, any_contained, contained, same_test, any-map, any-same, any-filter, any-values, row_of, contained_some, posted_row, posted_document, valued_row, column_found, is_some, some_is}

-- ---- the tests of a flat document, over the columns

abbrev keyword_in : List (ℕ × List ℕ) → ℕ → ℕ → (List ℕ → Bool) → ℕ × List (ℕ × List ℕ) → Bool
keyword_in terms field doc test column = (column.0 == field) && list_any (λ ordinal. test (bytes_at terms ordinal)) (values_of doc column.1)

abbrev number_in : ℕ → ℕ → (List ℕ → Bool) → ℕ × List (ℕ × List ℤ) → Bool
number_in field doc test column = (column.0 == field) && list_any (λ number. test (number_key number)) (values_of doc column.1)

abbrev word_in : ℕ → ℕ → (List ℕ → Bool) → TermRow → Bool
word_in field doc test row = nat_lt 0 (length (values_of doc row.postings)) && ((row.term.0 == field) && test row.term.1)

keywords_over : (terms : List (ℕ × List ℕ)) (field doc : ℕ) (test : List ℕ → Bool) (columns : List (ℕ × List (ℕ × List ℕ))) → list_any (is_keyword_of field test) (map (λ (pair : ℕ × List ℕ). (pair.0, map (bytes_at terms) pair.1)) (values_at doc columns)) ≡ list_any (keyword_in terms field doc test) columns
keywords_over terms field doc test columns =
    let named : ℕ × List ℕ → ℕ × List (List ℕ) = λ pair. (pair.0, map (bytes_at terms) pair.1) in
    any-map (is_keyword_of field test) named (values_at doc columns)
    ∙ any-same (λ pair. is_keyword_of field test (named pair)) (λ pair. (pair.0 == field) && list_any (λ ordinal. test (bytes_at terms ordinal)) pair.1) (values_at doc columns)
    (λ pair. ap (λ b. (pair.0 == field) && b) (any-map test (bytes_at terms) pair.1))
    ∙ any-values doc field (λ ordinal. test (bytes_at terms ordinal)) columns

words_over : (field doc : ℕ) (test : List ℕ → Bool) (rows : List TermRow) → list_any (is_word_of field test) (words_at doc rows) ≡ list_any (word_in field doc test) rows
words_over field doc test rows =
    let own : TermRow → (ℕ × List ℕ) × List ℕ = λ row. (row.term, values_of doc row.postings) in
    let some : (ℕ × List ℕ) × List ℕ → Bool = λ word. nat_lt 0 (length word.1) in
    any-filter some (is_word_of field test) (map own rows)
    ∙ any-map (λ word. some word && is_word_of field test word) own rows

term_over : (c : Columns) (field doc : ℕ) (test : List ℕ → Bool) → has_term field test (flat_of c doc) ≡ (list_any (keyword_in (terms_of c) field doc test) c.ordinals || (list_any (number_in field doc test) c.numbers || list_any (word_in field doc test) c.terms))
unfolding has_term
term_over c field doc test =
    let keywords = keywords_over (terms_of c) field doc test c.ordinals in
    let numbers = any-values doc field (λ number. test (number_key number)) c.numbers in
    let words = words_over field doc test c.terms in
    ap (λ b. b || (list_any (is_number_of field test) (values_at doc c.numbers) || list_any (is_word_of field test) (words_at doc c.terms))) keywords
    ∙ ap (λ b. list_any (keyword_in (terms_of c) field doc test) c.ordinals || (b || list_any (is_word_of field test) (words_at doc c.terms))) numbers
    ∙ ap (λ b. list_any (keyword_in (terms_of c) field doc test) c.ordinals || (list_any (number_in field doc test) c.numbers || b)) words

-- ---- the row of a term

pub record IsTermRow (rows : List TermRow) (ordinal : ℕ) (term : ℕ × List ℕ) : Type 0 where
  pub row : TermRow
  pub is : slice_get rows ordinal ≡ Some row
  pub own : row.term ≡ term
  pub postings : slice_index_or (map (λ (r : TermRow). r.postings) rows) ordinal [] ≡ row.postings

pub term_row : (rows : List TermRow) (ordinal : ℕ) (term : ℕ × List ℕ) → slice_get (map (λ (r : TermRow). r.term) rows) ordinal ≡ Some term → IsTermRow rows ordinal term
term_row [] ordinal term found = absurd (none-some term found)
term_row (row ∷ rows) zero term found = record { row = row; is = refl; own = same_Some row.term term found; postings = refl }
term_row (row ∷ rows) (suc ordinal) term found =
    let rest = term_row rows ordinal term found in
    record { row = rest.row; is = rest.is; own = rest.own; postings = rest.postings }

pub row_term : (rows : List TermRow) (ordinal : ℕ) (row : TermRow) → slice_get rows ordinal ≡ Some row → slice_get (map (λ (r : TermRow). r.term) rows) ordinal ≡ Some row.term
row_term rows ordinal row is = slice_get-map (λ (r : TermRow). r.term) rows ordinal ∙ ap (option_map (λ (r : TermRow). r.term)) is

pub row_postings : (rows : List TermRow) (ordinal : ℕ) (row : TermRow) → slice_get rows ordinal ≡ Some row → slice_index_or (map (λ (r : TermRow). r.postings) rows) ordinal [] ≡ row.postings
row_postings rows ordinal row is =
    get_or_from_slice_get (map (λ (r : TermRow). r.postings) rows) ordinal row.postings [] (slice_get-map (λ (r : TermRow). r.postings) rows ordinal ∙ ap (option_map (λ (r : TermRow). r.postings)) is)

-- ---- what the flat document shows is posted

posts_row : (c : Columns) (field doc : ℕ) (test : List ℕ → Bool) (ordinal : ℕ) (row : TermRow) → slice_get c.terms ordinal ≡ Some row → row.term.0 ≡ field → test row.term.1 ≡ true → has_document doc row.postings ≡ true → list_any (posts field doc test) c.terms ≡ true
posts_row c field doc test ordinal row is own passes posted =
    any_at (posts field doc test) c.terms ordinal row is
    (and_from ((row.term.0 == field) && test row.term.1) (has_document doc row.postings) (and_from (row.term.0 == field) (test row.term.1) ((Decides-eqb row.term.0 field).1 own) passes) posted)

some_term : (o : Option (ℕ × List ℕ)) (field : ℕ) → IsSomeAnd o (λ (term : ℕ × List ℕ). term.0 ≡ field) → (term : ℕ × List ℕ) × (o ≡ Some term) × (term.0 ≡ field)
some_term None field is = absurd is
some_term (Some term) field is = (term, refl, is)

from_keyword : (c : Columns) (field doc : ℕ) (test : List ℕ → Bool) → HaveTerms c → list_any (keyword_in (terms_of c) field doc test) c.ordinals ≡ true → list_any (posts field doc test) c.terms ≡ true
from_keyword c field doc test are holds =
    let found = passing (keyword_in (terms_of c) field doc test) c.ordinals holds in
    let parts = and_parts (found.own.0 == field) (list_any (λ ordinal. test (bytes_at (terms_of c) ordinal)) (values_of doc found.own.1)) found.passes in
    let of_field : found.own.0 ≡ field = (Decides-eqb found.own.0 field).0 parts.0 in
    let inner = passing (λ ordinal. test (bytes_at (terms_of c) ordinal)) (values_of doc found.own.1) parts.1 in
    let row = row_of doc found.own.1 (contained_some (values_of doc found.own.1) inner.own (contained (values_of doc found.own.1) inner.at inner.own inner.is)) in
    let rows_are = all_at (HaveOrdinals (terms_of c) (postings_of c)) c.ordinals found.at found.own are.ordinals found.is in
    let row_is = all_at (λ (r : ℕ × List ℕ). All (λ ordinal. IsOrdinalAt (terms_of c) (postings_of c) found.own.0 r.0 ordinal) r.1) found.own.1 row.at row.row rows_are row.is in
    let is = all_at (λ ordinal. IsOrdinalAt (terms_of c) (postings_of c) found.own.0 row.row.0 ordinal) row.row.1 inner.at inner.own row_is (ap (λ (vs : List ℕ). slice_get vs inner.at) (sym row.values) ∙ inner.is) in
    let term = some_term (slice_get (terms_of c) inner.own) found.own.0 is.of_field in
    let at = term_row c.terms inner.own term.0 term.1 in
    let bytes : bytes_at (terms_of c) inner.own ≡ at.row.term.1 = ap (λ (t : ℕ × List ℕ). t.1) (get_or_from_slice_get (terms_of c) inner.own term.0 (0, []) term.1 ∙ sym at.own) in
    posts_row c field doc test inner.own at.row at.is (ap (λ (t : ℕ × List ℕ). t.0) at.own ∙ term.2 ∙ of_field) (ap test (sym bytes) ∙ inner.passes)
    (posted_document doc at.row.postings (subst (λ d. Contains (documents at.row.postings) d) row.own (subst (λ (ps : List (ℕ × List ℕ)). Contains (documents ps) row.row.0) at.postings is.posted)))

from_number : (c : Columns) (field doc : ℕ) (test : List ℕ → Bool) → HaveTerms c → list_any (number_in field doc test) c.numbers ≡ true → list_any (posts field doc test) c.terms ≡ true
from_number c field doc test are holds =
    let found = passing (number_in field doc test) c.numbers holds in
    let parts = and_parts (found.own.0 == field) (list_any (λ number. test (number_key number)) (values_of doc found.own.1)) found.passes in
    let of_field : found.own.0 ≡ field = (Decides-eqb found.own.0 field).0 parts.0 in
    let inner = passing (λ number. test (number_key number)) (values_of doc found.own.1) parts.1 in
    let row = row_of doc found.own.1 (contained_some (values_of doc found.own.1) inner.own (contained (values_of doc found.own.1) inner.at inner.own inner.is)) in
    let rows_are = all_at (HaveKeys (terms_of c) (postings_of c)) c.numbers found.at found.own are.numbers found.is in
    let row_is = all_at (λ (r : ℕ × List ℤ). All (λ number. IsKeyed (terms_of c) (postings_of c) found.own.0 r.0 number) r.1) found.own.1 row.at row.row rows_are row.is in
    let is = all_at (λ number. IsKeyed (terms_of c) (postings_of c) found.own.0 row.row.0 number) row.row.1 inner.at inner.own row_is (ap (λ (vs : List ℤ). slice_get vs inner.at) (sym row.values) ∙ inner.is) in
    let at = term_row c.terms is.ordinal (found.own.0, number_key inner.own) is.is in
    posts_row c field doc test is.ordinal at.row at.is (ap (λ (t : ℕ × List ℕ). t.0) at.own ∙ of_field) (ap (λ (t : ℕ × List ℕ). test t.1) at.own ∙ inner.passes)
    (posted_document doc at.row.postings (subst (λ d. Contains (documents at.row.postings) d) row.own (subst (λ (ps : List (ℕ × List ℕ)). Contains (documents ps) row.row.0) at.postings is.posted)))

from_word : (c : Columns) (field doc : ℕ) (test : List ℕ → Bool) → list_any (word_in field doc test) c.terms ≡ true → list_any (posts field doc test) c.terms ≡ true
from_word c field doc test holds =
    let found = passing (word_in field doc test) c.terms holds in
    let parts = and_parts (nat_lt 0 (length (values_of doc found.own.postings))) ((found.own.term.0 == field) && test found.own.term.1) found.passes in
    let term = and_parts (found.own.term.0 == field) (test found.own.term.1) parts.1 in
    posts_row c field doc test found.at found.own found.is ((Decides-eqb found.own.term.0 field).0 term.0) term.1 (posted_row doc found.own.postings (is_some (length (values_of doc found.own.postings)) parts.0))

-- ---- what is posted is shown

-- a posting says what the document has in the column of the field
pub record IsKeywordOf (ordinals : Option (List (ℕ × List ℕ))) (doc ordinal : ℕ) : Type 0 where
  pub rows : List (ℕ × List ℕ)
  pub column : ordinals ≡ Some rows
  pub valued : Contains (values_of doc rows) ordinal

pub record IsNumberOf (numbers : Option (List (ℕ × List ℤ))) (doc : ℕ) (bytes : List ℕ) : Type 0 where
  pub rows : List (ℕ × List ℤ)
  pub column : numbers ≡ Some rows
  pub valued : Contains (map number_key (values_of doc rows)) bytes

abbrev Shown : Option (List (ℕ × List ℕ)) → Option (List (ℕ × List ℤ)) → ℕ → List ℕ → ℕ → List (ℕ × List ℕ) → Type 0
Shown ordinals numbers ordinal bytes doc postings = (0 < length (values_of doc postings)) ⊎ (IsKeywordOf ordinals doc ordinal ⊎ IsNumberOf numbers doc bytes)

posting_of : (doc : ℕ) (postings : List (ℕ × List ℕ)) → has_document doc postings ≡ true → IsPassing (λ (posting : ℕ × List ℕ). posting.0 == doc) postings
posting_of doc postings posted = passing (λ (posting : ℕ × List ℕ). posting.0 == doc) postings posted

shown : (present : Option (List Bool)) (ordinals : Option (List (ℕ × List ℕ))) (numbers : Option (List (ℕ × List ℤ))) (ordinal : ℕ) (bytes : List ℕ) (postings : List (ℕ × List ℕ)) (doc : ℕ) → IsTermOf present ordinals numbers ordinal bytes postings → has_document doc postings ≡ true → Shown ordinals numbers ordinal bytes doc postings
shown (Some present) ordinals numbers ordinal bytes postings doc is posted = inl (valued_row doc postings posted (λ k d below. (is k d below).positions))
shown None (Some rows) numbers ordinal bytes postings doc is posted =
    let found = posting_of doc postings posted in
    let own = all_at (IsKeywordAt rows ordinal) postings found.at found.own is found.is in
    inr (inl (record { rows = rows; column = refl; valued = subst (λ d. Contains (values_of d rows) ordinal) ((Decides-eqb found.own.0 doc).0 found.passes) own.valued }))
shown None None (Some rows) ordinal bytes postings doc is posted =
    let found = posting_of doc postings posted in
    let own = all_at (IsNumberAt rows bytes) postings found.at found.own is found.is in
    inr (inr (record { rows = rows; column = refl; valued = subst (λ d. Contains (map number_key (values_of d rows)) bytes) ((Decides-eqb found.own.0 doc).0 found.passes) own.valued }))
shown None None None ordinal bytes postings doc is posted = absurd is

to_shown : (c : Columns) (field doc : ℕ) (test : List ℕ → Bool) → HaveTerms c → list_any (posts field doc test) c.terms ≡ true → (list_any (keyword_in (terms_of c) field doc test) c.ordinals || (list_any (number_in field doc test) c.numbers || list_any (word_in field doc test) c.terms)) ≡ true
to_shown c field doc test are holds =
    let found = passing (posts field doc test) c.terms holds in
    let row = found.own in
    let parts = and_parts ((row.term.0 == field) && test row.term.1) (has_document doc row.postings) found.passes in
    let term = and_parts (row.term.0 == field) (test row.term.1) parts.0 in
    let of_field : row.term.0 ≡ field = (Decides-eqb row.term.0 field).0 term.0 in
    let at = are.terms found.at row.term (row_term c.terms found.at row found.is) in
    let is = subst (λ (ps : List (ℕ × List ℕ)). IsTermOf (column_of row.term.0 c.present) (column_of row.term.0 c.ordinals) (column_of row.term.0 c.numbers) found.at row.term.1 ps) (row_postings c.terms found.at row found.is) at.is in
    let keywords = list_any (keyword_in (terms_of c) field doc test) c.ordinals in
    let numbers = list_any (number_in field doc test) c.numbers in
    let words = list_any (word_in field doc test) c.terms in
    elim (shown (column_of row.term.0 c.present) (column_of row.term.0 c.ordinals) (column_of row.term.0 c.numbers) found.at row.term.1 row.postings doc is parts.1) [
      | inl word ↦
          or_right keywords (numbers || words) (or_right numbers words (any_at (word_in field doc test) c.terms found.at row found.is
          (and_from (nat_lt 0 (length (values_of doc row.postings))) ((row.term.0 == field) && test row.term.1) (some_is (length (values_of doc row.postings)) word) parts.0)))
      | inr other ↦ elim other [
        | inl keyword ↦
            let column = column_found row.term.0 keyword.rows c.ordinals keyword.column in
            let bytes : bytes_at (terms_of c) found.at ≡ row.term.1 = ap (λ (t : ℕ × List ℕ). t.1) (get_or_from_slice_get (terms_of c) found.at row.term (0, []) (row_term c.terms found.at row found.is)) in
            let passes : list_any (λ ordinal. test (bytes_at (terms_of c) ordinal)) (values_of doc column.column.1) ≡ true =
            any_contained (λ ordinal. test (bytes_at (terms_of c) ordinal)) (values_of doc column.column.1) found.at (subst (λ (rows : List (ℕ × List ℕ)). Contains (values_of doc rows) found.at) (sym column.same) keyword.valued) (ap test bytes ∙ term.1) in
            or_left keywords (numbers || words) (any_at (keyword_in (terms_of c) field doc test) c.ordinals column.at column.column column.is
            (and_from (column.column.0 == field) (list_any (λ ordinal. test (bytes_at (terms_of c) ordinal)) (values_of doc column.column.1)) ((Decides-eqb column.column.0 field).1 (column.own ∙ of_field)) passes))
        | inr number ↦
            let column = column_found row.term.0 number.rows c.numbers number.column in
            let passes : list_any (λ z. test (number_key z)) (values_of doc column.column.1) ≡ true =
            sym (any-map test number_key (values_of doc column.column.1))
            ∙ any_contained test (map number_key (values_of doc column.column.1)) row.term.1 (subst (λ (rows : List (ℕ × List ℤ)). Contains (map number_key (values_of doc rows)) row.term.1) (sym column.same) number.valued) term.1 in
            or_right keywords (numbers || words) (or_left numbers words (any_at (number_in field doc test) c.numbers column.at column.column column.is
            (and_from (column.column.0 == field) (list_any (λ z. test (number_key z)) (values_of doc column.column.1)) ((Decides-eqb column.column.0 field).1 (column.own ∙ of_field)) passes)))
      ]
    ]

-- ---- both ways

pub terms_shown : (c : Columns) (field doc : ℕ) (test : List ℕ → Bool) → AreColumns c → list_any (posts field doc test) c.terms ≡ has_term field test (flat_of c doc)
terms_shown c field doc test are =
    let keywords = list_any (keyword_in (terms_of c) field doc test) c.ordinals in
    let numbers = list_any (number_in field doc test) c.numbers in
    let words = list_any (word_in field doc test) c.terms in
    same_test (list_any (posts field doc test) c.terms) (keywords || (numbers || words)) (to_shown c field doc test are.terms)
    (λ holds. elim (or_cases keywords (numbers || words) holds) [
      | inl keyword ↦ from_keyword c field doc test are.terms keyword
      | inr other ↦ elim (or_cases numbers words other) [
        | inl number ↦ from_number c field doc test are.terms number
        | inr word ↦ from_word c field doc test word
      ]
    ])
    ∙ sym (term_over c field doc test)
