-- Rows that stand in bytes: what stands between their places is their text, and a term is at the front of its row.
use Rattle.std.proofs.Common.{◌≡◌, ℕ, ◌+◌, ◌-◌, ◌≤◌, List, [], ◌∷◌, ◌++◌, length, map, take, drop, All, refl, sym, ap, subst, ◌∙◌, append_assoc, arith}
use Rattle.std.specs.List.{flat_map}
use Rattle.std.proofs.lemmas.List.{take_at, drop_at, drop-drop, length-append, length-drop}
use Rattle.std.proofs.lemmas.List.Elements.{All-nil, All-cons, All-head, All-tail}
use Rattle.part_text.specs.Text.{u32_text, u64_text, counted_text}
use Rattle.part_text.specs.Places.{rows_of, ArePlaces}
use Rattle.part_text.specs.Placed.{rows_of-places_from, places_are}
use Rattle.part_text.specs.Front.{first_u32}
use Rattle.part_text.specs.Reads.{first_u32-text, length-u32_text, length-u64_text}
use Rattle.term_table.specs.declared.rows.TermRow.{TermRow}
use Rattle.term_table.specs.Terms.{AreAscending}
use Rattle.term_table.specs.Part.{posting_text, row_text, rows_text, IsRow, Stand, Belong}
use Rattle.term_table.specs.Kept.{term_length, term_of, HasTerm, terms_of, IsTable}

-- behind the number of rows stand the rows
behind_number : (bytes : List ℕ) (at : ℕ) (rows : List TermRow) (places : List ℕ) (end : ℕ) → Stand bytes at rows places end → drop (at + 8) bytes ≡ flat_map row_text rows ++ drop end bytes
behind_number bytes at rows places end stand =
    let whole : drop at bytes ≡ u64_text (length rows) ++ (flat_map row_text rows ++ drop end bytes) = stand.text ∙ append_assoc (u64_text (length rows)) (flat_map row_text rows) (drop end bytes) in
    sym (drop-drop 8 at bytes) ∙ ap (drop 8) whole ∙ drop_at (u64_text (length rows)) (flat_map row_text rows ++ drop end bytes) 8 (length-u64_text (length rows))

number_inside : (bytes : List ℕ) (at : ℕ) (rows : List TermRow) (places : List ℕ) (end : ℕ) → Stand bytes at rows places end → at + 8 ≤ length bytes
number_inside bytes at rows places end stand =
    let long : length bytes - at ≡ length (rows_text rows ++ drop end bytes) = sym (length-drop at bytes) ∙ ap length stand.text in
    omega (arith, long, length-append (rows_text rows) (drop end bytes), length-append (u64_text (length rows)) (flat_map row_text rows), length-u64_text (length rows))

pub stand_rows : (bytes : List ℕ) (at : ℕ) (rows : List TermRow) (places : List ℕ) (end : ℕ) → Stand bytes at rows places end → rows_of places bytes ≡ map row_text rows
stand_rows bytes at rows places end stand =
    ap (λ list. rows_of list bytes) stand.placed ∙ rows_of-places_from row_text (at + 8) rows bytes (drop end bytes) (behind_number bytes at rows places end stand)

pub stand_places : (bytes : List ℕ) (at : ℕ) (rows : List TermRow) (places : List ℕ) (end : ℕ) → Stand bytes at rows places end → ArePlaces places (length bytes)
stand_places bytes at rows places end stand =
    subst (λ list. ArePlaces list (length bytes)) (sym stand.placed)
    (places_are row_text (at + 8) rows bytes (drop end bytes) (number_inside bytes at rows places end stand) (behind_number bytes at rows places end stand))

-- ---- one row

abbrev postings_text : TermRow → List ℕ
postings_text row = counted_text u32_text posting_text row.postings

row_parts : (row : TermRow) → row_text row ≡ u32_text row.term.0 ++ (u32_text (length row.term.1) ++ (row.term.1 ++ postings_text row))
row_parts row = simp append_assoc

behind_field : (row : TermRow) → drop 4 (row_text row) ≡ u32_text (length row.term.1) ++ (row.term.1 ++ postings_text row)
behind_field row = ap (drop 4) (row_parts row) ∙ drop_at (u32_text row.term.0) (u32_text (length row.term.1) ++ (row.term.1 ++ postings_text row)) 4 (length-u32_text row.term.0)

behind_length : (row : TermRow) → drop 8 (row_text row) ≡ row.term.1 ++ postings_text row
behind_length row = sym (drop-drop 4 4 (row_text row)) ∙ ap (drop 4) (behind_field row) ∙ drop_at (u32_text (length row.term.1)) (row.term.1 ++ postings_text row) 4 (length-u32_text (length row.term.1))

pub term_length-row : (row : TermRow) → IsRow row → term_length (row_text row) ≡ length row.term.1
term_length-row row is = ap first_u32 (behind_field row) ∙ first_u32-text (length row.term.1) (row.term.1 ++ postings_text row) is.short

pub term_of-row : (row : TermRow) → IsRow row → term_of (row_text row) ≡ row.term
term_of-row row is =
    let field : first_u32 (row_text row) ≡ row.term.0 = ap first_u32 (row_parts row) ∙ first_u32-text row.term.0 (u32_text (length row.term.1) ++ (row.term.1 ++ postings_text row)) is.field in
    let own : take (term_length (row_text row)) (drop 8 (row_text row)) ≡ row.term.1 =
    ap (λ n. take n (drop 8 (row_text row))) (term_length-row row is) ∙ ap (take (length row.term.1)) (behind_length row) ∙ take_at row.term.1 (postings_text row) (length row.term.1) refl in
    ap (λ (f : ℕ). (f, take (term_length (row_text row)) (drop 8 (row_text row)))) field ∙ ap (λ (b : List ℕ). (row.term.0, b)) own

pub behind_term : (row : TermRow) → IsRow row → drop (8 + term_length (row_text row)) (row_text row) ≡ postings_text row
behind_term row is =
    ap (λ n. drop (8 + n) (row_text row)) (term_length-row row is) ∙ sym (drop-drop (length row.term.1) 8 (row_text row)) ∙ ap (drop (length row.term.1)) (behind_length row) ∙ drop_at row.term.1 (postings_text row) (length row.term.1) refl

pub has_term-row : (row : TermRow) → IsRow row → HasTerm (row_text row)
has_term-row row is =
    let long : length (row_text row) ≡ length (u32_text row.term.0) + (length (u32_text (length row.term.1)) + (length row.term.1 + length (postings_text row))) = ap length (row_parts row) ∙ simp length-append in
    omega (arith, long, term_length-row row is, length-u32_text row.term.0, length-u32_text (length row.term.1))

-- ---- all rows

pub terms_of-rows : (rows : List TermRow) → All IsRow rows → map term_of (map row_text rows) ≡ map (λ (row : TermRow). row.term) rows
terms_of-rows [] are = refl
terms_of-rows (row ∷ rows) are =
    ap (λ (term : ℕ × List ℕ). term ∷ map term_of (map row_text rows)) (term_of-row row (All-head IsRow row rows are)) ∙ ap (λ (terms : List (ℕ × List ℕ)). row.term ∷ terms) (terms_of-rows rows (All-tail IsRow row rows are))

have_terms-rows : (rows : List TermRow) → All IsRow rows → All HasTerm (map row_text rows)
have_terms-rows [] are = All-nil HasTerm
have_terms-rows (row ∷ rows) are = All-cons HasTerm (row_text row) (map row_text rows) (has_term-row row (All-head IsRow row rows are)) (have_terms-rows rows (All-tail IsRow row rows are))

pub stand_terms : (bytes : List ℕ) (at : ℕ) (rows : List TermRow) (places : List ℕ) (end : ℕ) → Stand bytes at rows places end → terms_of bytes places ≡ map (λ (row : TermRow). row.term) rows
unfolding terms_of
stand_terms bytes at rows places end stand = ap (map term_of) (stand_rows bytes at rows places end stand) ∙ terms_of-rows rows stand.are.rows_are

pub belong_table : (bytes places : List ℕ) → Belong bytes places → IsTable bytes places
belong_table bytes places belong = record {
  places_are = stand_places bytes belong.at belong.rows places belong.end belong.stand;
  have_terms = subst (All HasTerm) (sym (stand_rows bytes belong.at belong.rows places belong.end belong.stand)) (have_terms-rows belong.rows belong.stand.are.rows_are);
  ascending = subst AreAscending (sym (stand_terms bytes belong.at belong.rows places belong.end belong.stand)) belong.stand.are.ascending;
}
