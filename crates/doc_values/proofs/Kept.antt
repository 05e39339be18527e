-- A column in place, by its rows.
use Rattle.std.proofs.Common.{◌≡◌, ℕ, ◌+◌, ◌*◌, ◌/◌, ◌<◌, ◌≤◌, ◌^◌, List, [], ◌∷◌, ◌++◌, length, get_or, drop, map, Some, refl, sym, ap, subst, ◌∙◌, arith, append_assoc, Contains, slice_get}
use Rattle.std.specs.List.{All, flat_map}
use Rattle.std.specs.declared.cmp.Ordering.{Ordering}
use Rattle.std.proofs.lemmas.List.{drop_at, drop-drop, length-append, get_or-map}
use Rattle.std.proofs.lemmas.List.Elements.{All-head, All-tail}
use Rattle.std.proofs.lemmas.Option.{slice_get-get_or}
use Rattle.part_text.specs.Text.{u32_text}
use Rattle.part_text.specs.Reads.{first_u32-text, length-u32_text}
use Rattle.part_text.specs.Places.{row, rows_of}
use Rattle.part_text.specs.Placed.{rows_of-places_from, get_or-rows_of, places_are, length-places_from}
use Rattle.doc_values.specs.Values.{documents, values_of}
use Rattle.doc_values.specs.Text.{entry_text}
use Rattle.doc_values.specs.Stands.{Stands, Belong}
use Rattle.doc_values.specs.Kept.{values_in, entry_of, column_rows, documents_in, IsKept}
use Rattle.doc_values.proofs.Numbers.{values_text, length-values_in, length-values_text}
use Rattle.doc_values.proofs.Entries.{length-column_rows, get_or-column_rows, documents-column_rows}
use Rattle.doc_values.proofs.Lookups.{documents_at, values_of-at, values_of-missing}

-- how the values of a column are written and read
pub record AreWritten {X : Type 0} (text : X → List ℕ) (front : List ℕ → X) (Fits : X → Type 0) : Type 0 where
  pub long : (value : X) → length (text value) ≡ 8
  pub shows : (value : X) (rest : List ℕ) → Fits value → front (text value ++ rest) ≡ value

-- ---- from the text of a column

behind_eight : (a b : ℕ) (rest : List ℕ) → drop 8 (u32_text a ++ (u32_text b ++ rest)) ≡ rest
behind_eight a b rest =
    ap (drop 8) (sym (append_assoc (u32_text a) (u32_text b) rest))
    ∙ drop_at (u32_text a ++ u32_text b) rest 8 (omega (arith, length-append (u32_text a) (u32_text b), length-u32_text a, length-u32_text b))

entry_back : {X : Type 0} (text : X → List ℕ) (front : List ℕ → X) (Fits : X → Type 0) (entry : ℕ × List X) → AreWritten text front Fits → entry.0 < 2 ^ 32 → All Fits entry.1 → entry_of front (entry_text text entry) ≡ entry
entry_back {X} text front Fits entry written small fit =
    let values = flat_map text entry.1 in
    ap (λ (doc : ℕ). (doc, values_in front (drop 8 (entry_text text entry)))) (first_u32-text entry.0 (u32_text (length entry.1) ++ values) small)
    ∙ ap (λ (bytes : List ℕ). (entry.0, values_in front bytes)) (behind_eight entry.0 (length entry.1) values)
    ∙ ap (λ (own : List X). (entry.0, own)) (values_text front text Fits entry.1 written.long written.shows fit)

entries_back : {X : Type 0} (text : X → List ℕ) (front : List ℕ → X) (Fits : X → Type 0) (rows : List (ℕ × List X)) → AreWritten text front Fits → All (λ (r : ℕ × List X). r.0 < 2 ^ 32) rows → All (λ (r : ℕ × List X). All Fits r.1) rows → map (entry_of front) (map (entry_text text) rows) ≡ rows
entries_back text front Fits [] written small fit = refl
entries_back {X} text front Fits (r ∷ rows) written small fit =
    let Small : ℕ × List X → Type 0 = λ one. one.0 < 2 ^ 32 in
    let Fit : ℕ × List X → Type 0 = λ one. All Fits one.1 in
    ap (λ one. one ∷ map (entry_of front) (map (entry_text text) rows)) (entry_back text front Fits r written (All-head Small r rows small) (All-head Fit r rows fit))
    ∙ ap (λ others. r ∷ others) (entries_back text front Fits rows written (All-tail Small r rows small) (All-tail Fit r rows fit))

-- behind the field and the number of entries
entries_there : {X : Type 0} (cmp : X → X → Ordering) (Fits : X → Type 0) (text : X → List ℕ) (bytes : List ℕ) (at : ℕ) (column : ℕ × List (ℕ × List X)) (places : List ℕ) (end : ℕ) → Stands cmp Fits text bytes at column places end
    → drop (at + 8) bytes ≡ flat_map (entry_text text) column.1 ++ drop end bytes
entries_there {X} cmp Fits text bytes at column places end stands =
    let field : ℕ = column.0 in
    let rows : List (ℕ × List X) = column.1 in
    let entries = flat_map (entry_text text) rows in
    sym (drop-drop 8 at bytes)
    ∙ ap (drop 8) (stands.there ∙ append_assoc (u32_text field) (u32_text (length rows) ++ entries) (drop end bytes) ∙ ap (λ rest. u32_text field ++ rest) (append_assoc (u32_text (length rows)) entries (drop end bytes)))
    ∙ behind_eight field (length rows) (entries ++ drop end bytes)

pub belong_rows : {X : Type 0} (cmp : X → X → Ordering) (Fits : X → Type 0) (text : X → List ℕ) (front : List ℕ → X) (bytes places : List ℕ) (column : ℕ × List (ℕ × List X)) → AreWritten text front Fits → Belong cmp Fits text bytes places column
    → column_rows front places bytes ≡ column.1
unfolding column_rows
belong_rows {X} cmp Fits text front bytes places column written belong =
    let it = belong.stands in
    let rows : List (ℕ × List X) = column.1 in
    let there = entries_there cmp Fits text bytes belong.at column places belong.end it in
    ap (λ own. map (entry_of front) (rows_of own bytes)) it.placed
    ∙ ap (map (entry_of front)) (rows_of-places_from (entry_text text) (belong.at + 8) rows bytes (drop belong.end bytes) there)
    ∙ entries_back text front Fits rows written it.is.entries.numbered it.is.entries.fit

-- an entry is as long as its document, its number and its values, of which it has some
entry_long : {X : Type 0} (cmp : X → X → Ordering) (Fits : X → Type 0) (text : X → List ℕ) (front : List ℕ → X) (bytes places : List ℕ) (column : ℕ × List (ℕ × List X)) → AreWritten text front Fits → Belong cmp Fits text bytes places column
    → (at : ℕ) → at + 1 < length places → (count : ℕ) × (0 < count) × (length (row places bytes at) ≡ 8 + 8 * count)
entry_long {X} cmp Fits text front bytes places column written belong at below =
    let it = belong.stands in
    let rows : List (ℕ × List X) = column.1 in
    let there = entries_there cmp Fits text bytes belong.at column places belong.end it in
    let one : at < length rows = omega (arith, below, ap length it.placed, length-places_from (entry_text text) (belong.at + 8) rows) in
    let own : ℕ × List X = get_or rows at (0, []) in
    let some : 0 < length own.1 = (it.is.entries.rows_are.valued at (0, []) one).some in
    let text_is : row places bytes at ≡ entry_text text own =
    sym (get_or-rows_of places bytes at [] below)
    ∙ ap (λ own. get_or (rows_of own bytes) at []) it.placed
    ∙ ap (λ own. get_or own at []) (rows_of-places_from (entry_text text) (belong.at + 8) rows bytes (drop belong.end bytes) there)
    ∙ get_or-map (entry_text text) rows at (0, []) [] one in
    let long : length (row places bytes at) ≡ 8 + 8 * length own.1 = omega (
      arith,
      ap length text_is,
      length-append (u32_text own.0) (u32_text (length own.1) ++ flat_map text own.1),
      length-append (u32_text (length own.1)) (flat_map text own.1),
      length-u32_text own.0,
      length-u32_text (length own.1),
      length-values_text text own.1 written.long,
    )
    in (length own.1, some, long)

pub belong_kept : {X : Type 0} (cmp : X → X → Ordering) (Fits : X → Type 0) (text : X → List ℕ) (front : List ℕ → X) (bytes places : List ℕ) (column : ℕ × List (ℕ × List X)) → AreWritten text front Fits → Belong cmp Fits text bytes places column
    → IsKept cmp front places bytes
belong_kept {X} cmp Fits text front bytes places column written belong =
    let it = belong.stands in
    let field : ℕ = column.0 in
    let rows : List (ℕ × List X) = column.1 in
    let there = entries_there cmp Fits text bytes belong.at column places belong.end it in
    let same = belong_rows cmp Fits text front bytes places column written belong in
    let inside : belong.at + 8 ≤ length bytes = omega (
      arith,
      it.ends,
      it.within,
      length-append (u32_text field) (u32_text (length rows) ++ flat_map (entry_text text) rows),
      length-append (u32_text (length rows)) (flat_map (entry_text text) rows),
      length-u32_text field,
      length-u32_text (length rows),
    )
    in record {
      entries = record {
        places_are = rw it.placed (places_are (entry_text text) (belong.at + 8) rows bytes (drop belong.end bytes) inside there);
        whole = λ at below. let own = entry_long cmp Fits text front bytes places column written belong at below in omega (arith, own.1, own.2);
        eights = λ at below. let own = entry_long cmp Fits text front bytes places column written belong at below in omega (arith, own.2);
        ascending = rw (← documents-column_rows front places bytes, same) it.is.entries.rows_are.ascending;
      };
      rows_are = rw same it.is.entries.rows_are;
    }

-- ---- look-ups in a column of rows `value`

pub fewer_values : {X : Type 0} (cmp : X → X → Ordering) (front : List ℕ → X) (places bytes : List ℕ) (at : ℕ) → IsKept cmp front places bytes → at + 1 < length places → length (drop 8 (row places bytes at)) / 8 < 2 ^ 32
fewer_values {X} cmp front places bytes at kept below =
    let own : ℕ × List X = (0, []) in
    let valued = kept.rows_are.valued at own (omega (arith, length-column_rows front places bytes)) in
    let fewer = valued.fewer in
    omega (arith, fewer, ap (λ (r : ℕ × List X). length r.1) (get_or-column_rows front places bytes at own below), length-values_in front (drop 8 (row places bytes at)))

pub found_values : {X : Type 0} (cmp : X → X → Ordering) (front : List ℕ → X) (places bytes : List ℕ) (at doc : ℕ) (value : List (ℕ × List X)) → IsKept cmp front places bytes → column_rows front places bytes ≡ value → at + 1 < length places → get_or (documents_in places bytes) at 0 ≡ doc
    → values_in front (drop 8 (row places bytes at)) ≡ values_of doc value
found_values {X} cmp front places bytes at doc value kept view below is =
    let rows = column_rows front places bytes in
    let own : ℕ × List X = (0, []) in
    let inside : at < length rows = omega (arith, length-column_rows front places bytes) in
    let document : (get_or rows at own).0 ≡ doc = sym (documents_at rows at own inside) ∙ ap (λ docs. get_or docs at 0) (documents-column_rows front places bytes) ∙ is in
    sym (ap (λ (r : ℕ × List X). r.1) (get_or-column_rows front places bytes at own below))
    ∙ sym (values_of-at rows at doc own (rw documents-column_rows kept.entries.ascending) inside document)
    ∙ ap (values_of doc) view

pub missing_values : {X : Type 0} (front : List ℕ → X) (places bytes : List ℕ) (doc : ℕ) (value : List (ℕ × List X)) → column_rows front places bytes ≡ value → (Contains (documents_in places bytes) doc → ⊥) → values_of doc value ≡ []
missing_values front places bytes doc value view never =
    let rows = column_rows front places bytes in
    sym (ap (values_of doc) view)
    ∙ values_of-missing rows doc (subst (λ docs. Contains docs doc → ⊥) (sym (documents-column_rows front places bytes)) never)

pub row_is : {X : Type 0} (front : List ℕ → X) (places bytes : List ℕ) (at : ℕ) (value : List (ℕ × List X)) → column_rows front places bytes ≡ value → at + 1 < length places
    → slice_get value at ≡ Some (get_or (documents value) at 0, values_in front (drop 8 (row places bytes at)))
row_is {X} front places bytes at value view below =
    let rows = column_rows front places bytes in
    let own : ℕ × List X = (0, []) in
    let inside : at < length rows = omega (arith, length-column_rows front places bytes) in
    let values : (get_or rows at own).1 ≡ values_in front (drop 8 (row places bytes at)) = ap (λ (r : ℕ × List X). r.1) (get_or-column_rows front places bytes at own below) in
    rw (← view)
    (slice_get-get_or rows at own inside
    ∙ ap (λ (doc : ℕ). Some (doc, (get_or rows at own).1)) (sym (documents_at rows at own inside))
    ∙ ap (λ (all : List X). Some (get_or (documents rows) at 0, all)) values)
