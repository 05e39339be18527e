-- The search among entries of one width for the first document from a given one on.
use Rattle.std.proofs.Common.{◌≡◌, ℕ, ◌+◌, ◌-◌, ◌*◌, ◌<◌, ◌≤◌, Bool, true, false, nat_le, List, [], length, get_or, drop, refl, sym, ap, ◌∙◌, arith, inl, inr}
use Rattle.std.specs.List.{flat_map, position_or_len}
use Rattle.std.proofs.lemmas.Bool.{cases_lt}
use Rattle.std.proofs.lemmas.Bool.Decides.{nat_tests}
use Rattle.std.proofs.lemmas.List.{length-map, get_or-map, length-drop, get_or-drop, drop-drop}
use Rattle.std.proofs.lemmas.List.Sums.{position_or_len_is}
use Rattle.std.proofs.lemmas.Map.Keys.{sorted_from_strictly_increasing, below_from_sorted}
use Rattle.part_text.specs.Front.{first_u32}
use Rattle.term_table.specs.Postings.{documents, ArePostings}
use Rattle.term_table.specs.Part.{posting_text}
use Rattle.postings.specs.Postings.{place_from}
use Rattle.postings.specs.Marks.{has_positions}
use Rattle.postings.specs.Kept.{IsAt}
use Rattle.postings.specs.Search.{document_at, AreEntries, AreBelow}
use Rattle.postings.proofs.Entries.{entry_at, plain_at, plain_long, none_behind}

-- documents up to one below `to` are below it
pub below_upto : (entries : List ℕ) (count from at to : ℕ) → AreEntries entries count → at < count → document_at entries at < to → AreBelow entries from (at + 1) to
below_upto entries count from at to are inside below = λ k beyond before.
    elim (cases_lt k at) [
      | inl earlier ↦ let less : document_at entries k < document_at entries at = are.ascending k at earlier inside in omega (arith, less)
      | inr from_at ↦ let same : k ≡ at = omega arith in let here : document_at entries k ≡ document_at entries at = ap (document_at entries) same in omega (arith, here)
    ]

-- the document of a posting is less than that of a later one
pub document_less : (postings : List (ℕ × List ℕ)) (one other : ℕ) (d : ℕ × List ℕ) → ArePostings postings → one < other → other < length postings → (get_or postings one d).0 < (get_or postings other d).0
document_less postings one other d are earlier inside =
    let first : ℕ × List ℕ → ℕ = λ posting. posting.0 in
    let less : get_or (documents postings) one 0 < get_or (documents postings) other 0 =
    below_from_sorted (documents postings) one other 0 (sorted_from_strictly_increasing (documents postings) are.documents_are.ascending) earlier (omega (arith, inside, length-map postings first)) in
    omega (arith, less, get_or-map first postings one d 0 (omega arith), get_or-map first postings other d 0 inside)

-- what stands at the entries that a cursor has left
pub left_document : (postings : List (ℕ × List ℕ)) (count at : ℕ) (rest : List ℕ) (k : ℕ) (d : ℕ × List ℕ) → IsAt postings count at rest true → at + k < length postings → document_at rest k ≡ (get_or postings (at + k) d).0
left_document postings count at rest k d is inside =
    let none : has_positions postings ≡ false = is.plainly refl in
    let there : drop (8 * k) rest ≡ flat_map posting_text (drop (at + k) postings) =
    ap (drop (8 * k)) (is.here ∙ sym (plain_at postings at is.are none (omega arith)))
    ∙ drop-drop (8 * k) (8 * at) (flat_map posting_text postings)
    ∙ ap (λ n. drop n (flat_map posting_text postings)) (omega arith)
    ∙ plain_at postings (at + k) is.are none (omega arith) in
    ap first_u32 there ∙ (entry_at postings (at + k) d is.are inside).document

pub left_entries : (postings : List (ℕ × List ℕ)) (count at : ℕ) (rest : List ℕ) → IsAt postings count at rest true → AreEntries rest (count - at)
left_entries postings count at rest is =
    let long : length rest ≡ 8 * length (drop at postings) = ap length is.here ∙ plain_long (drop at postings) (none_behind postings at (is.plainly refl)) in
    let d : ℕ × List ℕ = (0, []) in
    record {
      room = omega (arith, long, length-drop at postings, is.counts);
      ascending = λ one other earlier inside.
          omega (
            arith,
            left_document postings count at rest one d is (omega (arith, is.counts)),
            left_document postings count at rest other d is (omega (arith, is.counts)),
            document_less postings (at + one) (at + other) d is.are (omega arith) (omega (arith, is.counts)),
          );
    }

-- the place that the search ends at is the first from `to` on
pub left_place : (postings : List (ℕ × List ℕ)) (count at : ℕ) (rest : List ℕ) (to passed : ℕ) → IsAt postings count at rest true → passed ≤ count - at → AreBelow rest 0 passed to → (passed < count - at → to ≤ document_at rest passed) → at + passed ≡ place_from to (record { postings = postings; at = at })
left_place postings count at rest to passed is within below reached =
    let d : ℕ × List ℕ = (0, []) in
    let test : ℕ × List ℕ → Bool = λ posting. nat_le to posting.0 in
    let size : length (drop at postings) ≡ length postings - at = length-drop at postings in
    let reads : (k : ℕ) → get_or (drop at postings) k d ≡ get_or postings (at + k) d = λ k. get_or-drop at postings k d in
    let first : position_or_len test (drop at postings) ≡ passed =
    position_or_len_is test (drop at postings) passed d (omega (arith, size, is.counts))
    (λ k earlier.
    let less : document_at rest k < to = below k (omega arith) earlier in
    let own : document_at rest k ≡ (get_or postings (at + k) d).0 = left_document postings count at rest k d is (omega (arith, is.counts)) in
    let before : nat_le to (get_or postings (at + k) d).0 ≡ false = grind (arith, nat_tests, less, own) in
    ap test (reads k) ∙ before)
    (λ inside.
    let more : to ≤ document_at rest passed = reached (omega (arith, size, is.counts)) in
    let own : document_at rest passed ≡ (get_or postings (at + passed) d).0 = left_document postings count at rest passed d is (omega (arith, size, is.counts)) in
    let there : nat_le to (get_or postings (at + passed) d).0 ≡ true = grind (arith, nat_tests, more, own) in
    ap test (reads passed) ∙ there) in
    omega (arith, first)

-- a cursor further on by so many entries
pub at_leap : (postings : List (ℕ × List ℕ)) (count at : ℕ) (rest : List ℕ) (passed : ℕ) → IsAt postings count at rest true → passed ≤ count - at → IsAt postings count (at + passed) (drop (8 * passed) rest) true
at_leap postings count at rest passed is within =
    let none : has_positions postings ≡ false = is.plainly refl in
    record {
      are = is.are;
      counts = is.counts;
      within = omega (arith, is.within);
      here =
          ap (drop (8 * passed)) (is.here ∙ sym (plain_at postings at is.are none (omega (arith, is.within, is.counts))))
          ∙ drop-drop (8 * passed) (8 * at) (flat_map posting_text postings)
          ∙ ap (λ n. drop n (flat_map posting_text postings)) (omega arith)
          ∙ plain_at postings (at + passed) is.are none (omega (arith, is.within, is.counts));
      plainly = is.plainly;
    }
