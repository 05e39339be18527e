-- Lists as they stand in rows, and a cursor's steps in them.
use Rattle.std.proofs.Common.{◌↔◌, IsTrue, IsSome, not, None, Option, inl, inr, ◌≡◌, ℕ, ◌+◌, ◌-◌, ◌*◌, ◌<◌, ◌≤◌, Bool, true, false, List, [], length, get_or, drop, Some, slice_get, refl, sym, ap, subst, ◌∙◌, arith}
use Rattle.std.specs.List.{flat_map}
use Rattle.std.specs.Option.{option_map, option_map_or}
use Rattle.std.proofs.lemmas.Bool.{cases_lt, false≢true}
use Rattle.std.proofs.lemmas.Option.{slice_get-get_or, slice_get_past}
use Rattle.std.proofs.lemmas.List.{drop_at, length-append, length-map, get_or-map}
use Rattle.part_text.specs.Text.{u32_text}
use Rattle.part_text.specs.Front.{first_u32}
use Rattle.part_text.specs.Places.{row, rows_of}
use Rattle.part_text.specs.Placed.{length-rows_of, get_or-rows_of}
use Rattle.part_text.specs.Reads.{first_u32-text, length-u32_text}
use Rattle.term_table.specs.Part.{posting_text}
use Rattle.postings.specs.Postings.{Standing, present, present_document, present_positions}
use Rattle.postings.specs.Marks.{has_positions}
use Rattle.postings.specs.Kept.{postings_of, IsList, IsAt, HasEntry, HasList, list_of, lists_of, IsTable}
use Rattle.postings.proofs.Entries.{Entry, entry_at, no_positions, plain_from, plain_long}

pub length-lists_of : (bytes places : List ℕ) → length (lists_of bytes places) ≡ length places - 1
unfolding lists_of
length-lists_of bytes places = length-map (rows_of places bytes) list_of ∙ length-rows_of places bytes

-- the list at a place of the table
pub list_at_row : (bytes places : List ℕ) (at : ℕ) → IsTable bytes places → at + 1 < length places → HasList (row places bytes at) × (list_of (row places bytes at) ≡ get_or (lists_of bytes places) at [])
unfolding lists_of
list_at_row bytes places at table below =
    let rows : at < length (rows_of places bytes) = omega (arith, below, length-rows_of places bytes) in
    let e = get_or-rows_of places bytes at (row places bytes at) below in
    (rw e at (table.have_lists at (row places bytes at) rows), sym (get_or-map list_of (rows_of places bytes) at (row places bytes at) [] rows ∙ ap list_of e))

-- ---- the number and the entries of a list

pub list_count : (text : List ℕ) → IsList text → first_u32 text ≡ length (postings_of text)
list_count text is =
    let postings : List (ℕ × List ℕ) = postings_of text in
    ap first_u32 is.is ∙ first_u32-text (length postings) (flat_map posting_text postings) (omega (arith, is.are.documents_are.fewer, length-map postings (λ (posting : ℕ × List ℕ). posting.0)))

pub list_entries : (text : List ℕ) → IsList text → drop 4 text ≡ flat_map posting_text (postings_of text)
list_entries text is =
    let postings : List (ℕ × List ℕ) = postings_of text in
    ap (drop 4) is.is ∙ drop_at (u32_text (length postings)) (flat_map posting_text postings) 4 (length-u32_text (length postings))

pub list_long : (text : List ℕ) → IsList text → 4 ≤ length text
list_long text is =
    let postings : List (ℕ × List ℕ) = postings_of text in
    let long : length text ≡ length (u32_text (length postings)) + length (flat_map posting_text postings) = ap length is.is ∙ length-append (u32_text (length postings)) (flat_map posting_text postings) in
    omega (arith, long, length-u32_text (length postings))

-- ---- where a cursor stands

pub at_entry : (postings : List (ℕ × List ℕ)) (count at : ℕ) (rest : List ℕ) (plain : Bool) (d : ℕ × List ℕ) → IsAt postings count at rest plain → at < length postings → Entry rest (get_or postings at d) (flat_map posting_text (drop (at + 1) postings))
at_entry postings count at rest plain d is inside =
    subst (λ bytes. Entry bytes (get_or postings at d) (flat_map posting_text (drop (at + 1) postings))) (sym is.here) (entry_at postings at d is.are inside)

pub has_entry : (rest : List ℕ) (posting : ℕ × List ℕ) (after : List ℕ) → Entry rest posting after → HasEntry rest
has_entry rest posting after e = omega (arith, e.count, e.long)

pub at_plain : (postings : List (ℕ × List ℕ)) (count at : ℕ) (rest : List ℕ) (plain : Bool) → IsAt postings count at rest plain → at < length postings → plain ≡ true → first_u32 (drop 4 rest) ≡ 0
at_plain postings count at rest plain is inside so =
    let d : ℕ × List ℕ = (0, []) in
    (at_entry postings count at rest plain d is inside).count ∙ no_positions postings at d (is.plainly so) inside

pub at_next : (postings : List (ℕ × List ℕ)) (count at : ℕ) (rest : List ℕ) (plain : Bool) → IsAt postings count at rest plain → at < length postings → IsAt postings count (at + 1) (drop (8 + 4 * first_u32 (drop 4 rest)) rest) plain
at_next postings count at rest plain is inside =
    let d : ℕ × List ℕ = (0, []) in
    let e : Entry rest (get_or postings at d) (flat_map posting_text (drop (at + 1) postings)) = at_entry postings count at rest plain d is inside in
    record {
      are = is.are;
      counts = is.counts;
      within = omega (arith, is.counts);
      here = ap (λ n. drop (8 + 4 * n) rest) e.count ∙ e.next;
      plainly = is.plainly;
    }

not_false : (test : Bool) → (test ≡ false → ⊥) → true ≡ test
not_false true never = refl
not_false false never = absurd (never refl)

-- a cursor at the first posting of a list
pub at_start : (text : List ℕ) (count : ℕ) (rest : List ℕ) (plain : Bool) → IsList text → count ≡ first_u32 text → rest ≡ drop 4 text → IsTrue plain ↔ (length rest ≡ 8 * count) → IsAt (postings_of text) count 0 rest plain
at_start text count rest plain is counts here width =
    let number : count ≡ length (postings_of text) = counts ∙ list_count text is in
    let entries : rest ≡ flat_map posting_text (postings_of text) = here ∙ list_entries text is in
    record {
      are = is.are;
      counts = number;
      within = omega arith;
      here = entries;
      plainly = λ so. plain_from (postings_of text) (sym (ap length entries) ∙ width.0 so ∙ ap (λ n. 8 * n) number);
    }

-- entries that aren't of one width have positions
pub not_plain : (text : List ℕ) (count : ℕ) (rest : List ℕ) (plain : Bool) → IsList text → count ≡ first_u32 text → rest ≡ drop 4 text → IsTrue plain ↔ (length rest ≡ 8 * count) → not plain ≡ has_positions (postings_of text)
not_plain text count rest true is counts here width = sym ((at_start text count rest true is counts here width).plainly refl)
not_plain text count rest false is counts here width =
    let number : count ≡ length (postings_of text) = counts ∙ list_count text is in
    let entries : rest ≡ flat_map posting_text (postings_of text) = here ∙ list_entries text is in
    not_false (has_positions (postings_of text)) (λ none. false≢true (width.1 (ap length entries ∙ plain_long (postings_of text) none ∙ ap (λ n. 8 * n) (sym number))))

-- ---- what a cursor shows

pub record Shown (rest : List ℕ) (cursor : Standing) : Type 0 where
  pub document : present_document cursor ≡ Some (first_u32 rest)
  pub count : first_u32 (drop 4 rest) ≡ length (present_positions cursor)
  pub long : 8 + 4 * length (present_positions cursor) ≤ length rest
  pub position : (i : ℕ) → i < length (present_positions cursor) → first_u32 (drop (8 + 4 * i) rest) ≡ get_or (present_positions cursor) i 0

pub shown : (postings : List (ℕ × List ℕ)) (count at : ℕ) (rest : List ℕ) (plain : Bool) (cursor : Standing) → record { postings = postings; at = at } ≡ cursor → IsAt postings count at rest plain → at < length postings → Shown rest cursor
shown postings count at rest plain cursor same is inside =
    let d : ℕ × List ℕ = (0, []) in
    let e : Entry rest (get_or postings at d) (flat_map posting_text (drop (at + 1) postings)) = at_entry postings count at rest plain d is inside in
    let there : slice_get postings at ≡ Some (get_or postings at d) = slice_get-get_or postings at d inside in
    let own : Standing = record { postings = postings; at = at } in
    let positions : present_positions own ≡ (get_or postings at d).1 = ap (λ (o : Option (ℕ × List ℕ)). option_map_or (λ (posting : ℕ × List ℕ). posting.1) o []) there in
    let made : Shown rest own = record {
      document = ap (option_map (λ (posting : ℕ × List ℕ). posting.0)) there ∙ ap (λ (n : ℕ). Some n) (sym e.document);
      count = e.count ∙ ap length (sym positions);
      long = omega (arith, e.long, ap length positions);
      position = λ i below. e.position i (omega (arith, below, ap length positions)) ∙ ap (λ list. get_or list i 0) (sym positions);
    } in
    subst (Shown rest) same made

pub shown_none : (postings : List (ℕ × List ℕ)) (at : ℕ) (cursor : Standing) → record { postings = postings; at = at } ≡ cursor → length postings ≤ at → present_document cursor ≡ None
shown_none postings at cursor same past =
    sym (ap present_document same) ∙ ap (option_map (λ (posting : ℕ × List ℕ). posting.0)) (slice_get_past postings at past)

-- something is present only before the end
pub some_inside : (postings : List (ℕ × List ℕ)) (at : ℕ) (cursor : Standing) → record { postings = postings; at = at } ≡ cursor → IsSome (present cursor) → at < length postings
some_inside postings at cursor same some =
    let own : Standing = record { postings = postings; at = at } in
    elim (cases_lt at (length postings)) [
      | inl inside ↦ inside
      | inr past ↦ absurd (false≢true (subst IsSome (slice_get_past postings at past) (subst (λ (v : Standing). IsSome (present v)) {y = own} (sym same) some)))
    ]

pub position_inside : (postings : List (ℕ × List ℕ)) (at i : ℕ) (cursor : Standing) → record { postings = postings; at = at } ≡ cursor → i < length (present_positions cursor) → at < length postings
position_inside postings at i cursor same below =
    elim (cases_lt at (length postings)) [
      | inl inside ↦ inside
      | inr past ↦
          let none : present_positions cursor ≡ [] = sym (ap present_positions same) ∙ ap (λ (o : Option (ℕ × List ℕ)). option_map_or (λ (posting : ℕ × List ℕ). posting.1) o []) (slice_get_past postings at past) in
          absurd (omega (arith, below, ap length none))
    ]

pub ruleset lists = (length-lists_of)
