-- Entries: what stands at the front of a posting's text.
use Rattle.std.proofs.Common.{◌≡◌, ℕ, zero, suc, ◌+◌, ◌*◌, ◌<◌, ◌≤◌, ◌^◌, ◌||◌, Bool, true, false, nat_lt, List, [], ◌∷◌, ◌++◌, length, get_or, drop, All, refl, sym, ap, subst, ◌∙◌, append_assoc, arith}
use Rattle.std.specs.List.{flat_map}
use Rattle.std.proofs.lemmas.Bool.Decides.{nat_tests}
use Rattle.std.proofs.lemmas.List.{drop_at, drop-drop, drop_more, length-append, length-map, get_or-map}
use Rattle.std.proofs.lemmas.List.Elements.{All-head, All-tail}
use Rattle.part_text.specs.Text.{u32_text}
use Rattle.part_text.specs.Front.{first_u32}
use Rattle.part_text.specs.Reads.{first_u32-text, length-u32_text}
use Rattle.term_table.specs.Postings.{AreAscending, ArePostings}
use Rattle.term_table.specs.Part.{posting_text}
use Rattle.postings.specs.Marks.{has_positions}

pub length-numbers : (numbers : List ℕ) → length (flat_map u32_text numbers) ≡ 4 * length numbers
length-numbers [] = refl
length-numbers (number ∷ numbers) =
    omega (arith, length-append (u32_text number) (flat_map u32_text numbers), length-u32_text number, length-numbers numbers)

-- number `at` of those that stand one after the other
number_in : (numbers : List ℕ) (after : List ℕ) (at : ℕ) → All (λ number. number < 2 ^ 32) numbers → at < length numbers → first_u32 (drop (4 * at) (flat_map u32_text numbers ++ after)) ≡ get_or numbers at 0
number_in [] after at fit below = absurd (omega arith)
number_in (number ∷ numbers) after zero fit below =
    let none : 4 * zero ≡ 0 = omega arith in
    let front : (u32_text number ++ flat_map u32_text numbers) ++ after ≡ u32_text number ++ (flat_map u32_text numbers ++ after) = append_assoc (u32_text number) (flat_map u32_text numbers) after in
    ap (λ n. first_u32 (drop n ((u32_text number ++ flat_map u32_text numbers) ++ after))) none
    ∙ ap first_u32 front ∙ first_u32-text number (flat_map u32_text numbers ++ after) (All-head (λ n. n < 2 ^ 32) number numbers fit)
number_in (number ∷ numbers) after (suc at) fit below =
    let further : 4 * suc at ≡ 4 + 4 * at = omega arith in
    let front : (u32_text number ++ flat_map u32_text numbers) ++ after ≡ u32_text number ++ (flat_map u32_text numbers ++ after) = append_assoc (u32_text number) (flat_map u32_text numbers) after in
    let behind : drop (4 + 4 * at) ((u32_text number ++ flat_map u32_text numbers) ++ after) ≡ drop (4 * at) (flat_map u32_text numbers ++ after) =
    sym (drop-drop (4 * at) 4 ((u32_text number ++ flat_map u32_text numbers) ++ after)) ∙ ap (drop (4 * at)) (ap (drop 4) front ∙ drop_at (u32_text number) (flat_map u32_text numbers ++ after) 4 (length-u32_text number)) in
    ap (λ n. first_u32 (drop n ((u32_text number ++ flat_map u32_text numbers) ++ after))) further
    ∙ ap first_u32 behind ∙ number_in numbers after at (All-tail (λ n. n < 2 ^ 32) number numbers fit) (omega arith)

-- what the bytes at an entry say of its posting, and what stands behind it
pub record Entry (rest : List ℕ) (posting : ℕ × List ℕ) (after : List ℕ) : Type 0 where
  pub document : first_u32 rest ≡ posting.0
  pub count : first_u32 (drop 4 rest) ≡ length posting.1
  pub next : drop (8 + 4 * length posting.1) rest ≡ after
  pub long : 8 + 4 * length posting.1 ≤ length rest
  pub position : (i : ℕ) → i < length posting.1 → first_u32 (drop (8 + 4 * i) rest) ≡ get_or posting.1 i 0

entry : (posting : ℕ × List ℕ) (after : List ℕ) → posting.0 < 2 ^ 32 → AreAscending posting.1 → Entry (posting_text posting ++ after) posting after
entry posting after fits are =
    let numbers : List ℕ = flat_map u32_text posting.1 in
    let parts : posting_text posting ++ after ≡ u32_text posting.0 ++ (u32_text (length posting.1) ++ (numbers ++ after)) = simp append_assoc in
    let one : drop 4 (posting_text posting ++ after) ≡ u32_text (length posting.1) ++ (numbers ++ after) =
    ap (drop 4) parts ∙ drop_at (u32_text posting.0) (u32_text (length posting.1) ++ (numbers ++ after)) 4 (length-u32_text posting.0) in
    let two : drop 8 (posting_text posting ++ after) ≡ numbers ++ after =
    sym (drop-drop 4 4 (posting_text posting ++ after)) ∙ ap (drop 4) one ∙ drop_at (u32_text (length posting.1)) (numbers ++ after) 4 (length-u32_text (length posting.1)) in
    let size : length (posting_text posting ++ after) ≡ length (u32_text posting.0) + (length (u32_text (length posting.1)) + (length numbers + length after)) = ap length parts ∙ simp length-append in
    record {
      document = ap first_u32 parts ∙ first_u32-text posting.0 (u32_text (length posting.1) ++ (numbers ++ after)) fits;
      count = ap first_u32 one ∙ first_u32-text (length posting.1) (numbers ++ after) are.fewer;
      next = sym (drop-drop (4 * length posting.1) 8 (posting_text posting ++ after)) ∙ ap (drop (4 * length posting.1)) two ∙ drop_at numbers after (4 * length posting.1) (length-numbers posting.1);
      long = omega (arith, size, length-u32_text posting.0, length-u32_text (length posting.1), length-numbers posting.1);
      position = λ i below. ap first_u32 (sym (drop-drop (4 * i) 8 (posting_text posting ++ after)) ∙ ap (drop (4 * i)) two) ∙ number_in posting.1 after i are.fit below;
    }

document_fits : (postings : List (ℕ × List ℕ)) → ArePostings postings → (at : ℕ) (d : ℕ × List ℕ) → at < length postings → (get_or postings at d).0 < 2 ^ 32
document_fits postings are at d inside =
    let first : ℕ × List ℕ → ℕ = λ posting. posting.0 in
    subst (λ n. n < 2 ^ 32) (get_or-map first postings at d 0 inside) (are.documents_are.fit at 0 (omega (arith, inside, length-map postings first)))

-- the entry of a posting, and of the postings behind it
pub entry_at : (postings : List (ℕ × List ℕ)) (at : ℕ) (d : ℕ × List ℕ) → ArePostings postings → at < length postings → Entry (flat_map posting_text (drop at postings)) (get_or postings at d) (flat_map posting_text (drop (at + 1) postings))
entry_at postings at d are inside =
    let posting : ℕ × List ℕ = get_or postings at d in
    let after : List ℕ = flat_map posting_text (drop (at + 1) postings) in
    let whole : flat_map posting_text (drop at postings) ≡ posting_text posting ++ after = ap (flat_map posting_text) (drop_more postings at d inside) in
    subst (λ rest. Entry rest posting after) (sym whole) (entry posting after (document_fits postings are at d inside) (are.positions_are at d inside))

-- ---- entries of one width

-- two tests that both fail
neither : (one other : Bool) → (one || other) ≡ false → (one ≡ false) × (other ≡ false)
neither true other none = absurd cc
neither false other none = (refl, none)

none_below : (n : ℕ) → nat_lt 0 n ≡ false → n ≡ 0
none_below n e = grind (arith, nat_tests)

-- the number of all positions
abbrev count_positions : List (ℕ × List ℕ) → ℕ
count_positions [] = 0
count_positions (posting ∷ postings) = length posting.1 + count_positions postings

length-entries : (postings : List (ℕ × List ℕ)) → length (flat_map posting_text postings) ≡ 8 * length postings + 4 * count_positions postings
length-entries [] = refl
length-entries (posting ∷ postings) =
    let numbers : List ℕ = flat_map u32_text posting.1 in
    omega (
      arith,
      length-append (posting_text posting) (flat_map posting_text postings),
      length-append (u32_text posting.0) (u32_text (length posting.1) ++ numbers),
      length-append (u32_text (length posting.1)) numbers,
      length-u32_text posting.0,
      length-u32_text (length posting.1),
      length-numbers posting.1,
      length-entries postings,
    )

counted_none : (postings : List (ℕ × List ℕ)) → count_positions postings ≡ 0 → has_positions postings ≡ false
counted_none [] none = refl
counted_none (posting ∷ postings) none =
    let first : nat_lt 0 (length posting.1) ≡ false = grind (arith, nat_tests) in
    let others : has_positions postings ≡ false = counted_none postings (omega arith) in
    ap (λ test. test || has_positions postings) first ∙ others

none_counted : (postings : List (ℕ × List ℕ)) → has_positions postings ≡ false → count_positions postings ≡ 0
none_counted [] none = refl
none_counted (posting ∷ postings) none =
    let both = neither (nat_lt 0 (length posting.1)) (has_positions postings) none in
    let first : length posting.1 ≡ 0 = none_below (length posting.1) both.0 in
    omega (arith, first, none_counted postings both.1)

-- entries have no positions exactly where they are of eight bytes each
pub plain_from : (postings : List (ℕ × List ℕ)) → length (flat_map posting_text postings) ≡ 8 * length postings → has_positions postings ≡ false
plain_from postings long = counted_none postings (omega (arith, long, length-entries postings))

pub plain_long : (postings : List (ℕ × List ℕ)) → has_positions postings ≡ false → length (flat_map posting_text postings) ≡ 8 * length postings
plain_long postings none = omega (arith, length-entries postings, none_counted postings none)

pub no_positions : (postings : List (ℕ × List ℕ)) (at : ℕ) (d : ℕ × List ℕ) → has_positions postings ≡ false → at < length postings → length (get_or postings at d).1 ≡ 0
no_positions [] at d none inside = absurd (omega arith)
no_positions (posting ∷ postings) zero d none inside = none_below (length posting.1) (neither (nat_lt 0 (length posting.1)) (has_positions postings) none).0
no_positions (posting ∷ postings) (suc at) d none inside = no_positions postings at d (neither (nat_lt 0 (length posting.1)) (has_positions postings) none).1 (omega arith)

pub none_behind : (postings : List (ℕ × List ℕ)) (at : ℕ) → has_positions postings ≡ false → has_positions (drop at postings) ≡ false
none_behind postings zero none = none
none_behind [] (suc at) none = refl
none_behind (posting ∷ postings) (suc at) none = none_behind postings at (neither (nat_lt 0 (length posting.1)) (has_positions postings) none).1

-- so entry `at` stands eight bytes for each before it further on
pub plain_at : (postings : List (ℕ × List ℕ)) (at : ℕ) → ArePostings postings → has_positions postings ≡ false → at ≤ length postings → drop (8 * at) (flat_map posting_text postings) ≡ flat_map posting_text (drop at postings)
plain_at postings zero are none within = let start : 8 * zero ≡ 0 = omega arith in ap (λ n. drop n (flat_map posting_text postings)) start
plain_at postings (suc at) are none within =
    let further : 8 * suc at ≡ 8 * at + 8 = omega arith in
    let before : drop (8 * at) (flat_map posting_text postings) ≡ flat_map posting_text (drop at postings) = plain_at postings at are none (omega arith) in
    let e : Entry (flat_map posting_text (drop at postings)) (get_or postings at (0, [])) (flat_map posting_text (drop (at + 1) postings)) = entry_at postings at (0, []) are (omega arith) in
    let width : 8 + 4 * length (get_or postings at (0, [])).1 ≡ 8 = omega (arith, no_positions postings at (0, []) none (omega arith)) in
    let next : suc at ≡ at + 1 = omega arith in
    ap (λ n. drop n (flat_map posting_text postings)) further
    ∙ sym (drop-drop 8 (8 * at) (flat_map posting_text postings)) ∙ ap (drop 8) before
    ∙ ap (λ n. drop n (flat_map posting_text (drop at postings))) (sym width) ∙ e.next ∙ ap (λ n. flat_map posting_text (drop n postings)) (sym next)
