-- Lists that stand in bytes behind their terms: they are the postings of the rows.
use Rattle.std.proofs.Common.{◌≡◌, ℕ, List, [], ◌∷◌, map, All, refl, sym, ap, subst, ◌∙◌}
use Rattle.std.proofs.lemmas.List.{append-nil}
use Rattle.std.proofs.lemmas.List.Elements.{All-nil, All-cons, All-head, All-tail}
use Rattle.part_text.specs.Text.{u32_text, counted_text}
use Rattle.term_table.specs.declared.rows.TermRow.{TermRow}
use Rattle.term_table.specs.Postings.{ArePostings}
use Rattle.term_table.specs.Part.{posting_text, row_text, IsRow, Stand, Belong}
use Rattle.term_table.specs.Reading.{postings_at}
use Rattle.term_table.specs.Laws.{postings_reads}
use Rattle.term_table.specs.Stands.{stand_rows, stand_places, behind_term, has_term-row}
use Rattle.postings.specs.Kept.{read_or_none, postings_of, IsList, HasList, list_of, lists_of, IsTable}

postings_of-text : (postings : List (ℕ × List ℕ)) → ArePostings postings → postings_of (counted_text u32_text posting_text postings) ≡ postings
unfolding postings_of
postings_of-text postings are =
    ap (λ text. read_or_none (postings_at text)) (sym (append-nil (counted_text u32_text posting_text postings)))
    ∙ ap read_or_none ((postings_reads {B = Unit {0}}).again tt postings [] are)

is_list : (postings : List (ℕ × List ℕ)) → ArePostings postings → IsList (counted_text u32_text posting_text postings)
is_list postings are =
    let same : postings ≡ postings_of (counted_text u32_text posting_text postings) = sym (postings_of-text postings are) in
    record { are = subst ArePostings same are; is = ap (counted_text u32_text posting_text) same }

list_of-row : (one : TermRow) → IsRow one → list_of (row_text one) ≡ one.postings
list_of-row one is = ap postings_of (behind_term one is) ∙ postings_of-text one.postings is.postings_are

has_list-row : (one : TermRow) → IsRow one → HasList (row_text one)
has_list-row one is = record { has_term = has_term-row one is; list_is = subst IsList (sym (behind_term one is)) (is_list one.postings is.postings_are) }

lists_of-rows : (rows : List TermRow) → All IsRow rows → map list_of (map row_text rows) ≡ map (λ (one : TermRow). one.postings) rows
lists_of-rows [] are = refl
lists_of-rows (one ∷ rows) are =
    ap (λ (list : List (ℕ × List ℕ)). list ∷ map list_of (map row_text rows)) (list_of-row one (All-head IsRow one rows are)) ∙ ap (λ (lists : List (List (ℕ × List ℕ))). one.postings ∷ lists) (lists_of-rows rows (All-tail IsRow one rows are))

have_lists-rows : (rows : List TermRow) → All IsRow rows → All HasList (map row_text rows)
have_lists-rows [] are = All-nil HasList
have_lists-rows (one ∷ rows) are = All-cons HasList (row_text one) (map row_text rows) (has_list-row one (All-head IsRow one rows are)) (have_lists-rows rows (All-tail IsRow one rows are))

pub stand_lists : (bytes : List ℕ) (at : ℕ) (rows : List TermRow) (places : List ℕ) (end : ℕ) → Stand bytes at rows places end → lists_of bytes places ≡ map (λ (one : TermRow). one.postings) rows
unfolding lists_of
stand_lists bytes at rows places end stand = ap (map list_of) (stand_rows bytes at rows places end stand) ∙ lists_of-rows rows stand.are.rows_are

pub belong_table : (bytes places : List ℕ) → Belong bytes places → IsTable bytes places
belong_table bytes places belong = record {
  places_are = stand_places bytes belong.at belong.rows places belong.end belong.stand;
  have_lists = subst (All HasList) (sym (stand_rows bytes belong.at belong.rows places belong.end belong.stand)) (have_lists-rows belong.rows belong.stand.are.rows_are);
}
