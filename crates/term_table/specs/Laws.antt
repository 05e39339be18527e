-- The law of the text of terms with their postings: what is read stands there in its one spelling, and each spelling is read.
use Rattle.std.proofs.Common.{◌≡◌, ℕ, ◌+◌, ◌<◌, ◌^◌, true, List, [], length, get_or, map, Option, Some, None, All, refl, sym, ap, subst, arith, ltb}
use Rattle.std.specs.Ordering.{is_lt}
use Rattle.std.specs.declared.cmp.Ordering.{Ordering}
use Rattle.std.specs.declared.cmp.Ordering.TheVariants.{Less, Equal, Greater}
use Rattle.std.specs.List.Sorted.{IsStrictlyIncreasing}
use Rattle.std.proofs.lemmas.Bool.{ltb-true, lt-ltb}
use Rattle.std.proofs.lemmas.List.{map-id, length-map, get_or_default, get_or-map}
use Rattle.std.proofs.lemmas.List.Elements.{All-map, All-weaker}
use Rattle.std.specs.Cmp.{IsTotalOrder}
use Rattle.std.proofs.lemmas.Cmp.{nat_list_cmp_total, nat_cmp_total, then_total, on_total}
use Rattle.std.proofs.lemmas.Map.Keys.{Less-from_sorted, sorted_from_all_adjacent}
use Rattle.part_text.specs.Text.{u32_text, u64_text, string_text, counted_text}
use Rattle.part_text.specs.Reading.{u32_at, u64_at, string_at, both_at, follows}
use Rattle.part_text.specs.Reads.{Reads, Follow, reads_as, u32_reads, u64_reads, string_reads, both_text, both_reads, tested_reads, made_reads, counted_reads}
use Rattle.part_text.specs.Order.{After, Rising, follow_all, follow_rising, follow_of}
use Rattle.term_table.specs.declared.rows.TermRow.{TermRow}
use Rattle.term_table.specs.Terms.{term_cmp, AreAscending as AreTerms}
use Rattle.term_table.specs.Postings.{documents, AreAscending, ArePostings}
use Rattle.term_table.specs.Part.{posting_text, term_text, row_text, rows_text, IsRow, AreRows}
use Rattle.term_table.specs.Reading.{ascending_at, positions_at, posting_at, postings_at, some_postings_at, is_term_before, term_at, row_of, row_at, rows_at}

-- a number that may stand behind another
abbrev pub Number : Option ℕ → ℕ → Type 0
Number before number = (number < 2 ^ 32) × After (λ (one other : ℕ). one < other) before number

pub follows_after : (before : Option ℕ) (number : ℕ) → follows ltb before number ≡ true → After (λ (one other : ℕ). one < other) before number
follows_after None number e = tt
follows_after (Some before) number e = ltb-true before number e

pub after_follows : (before : Option ℕ) (number : ℕ) → After (λ (one other : ℕ). one < other) before number → follows ltb before number ≡ true
after_follows None number after = refl
after_follows (Some before) number after = lt-ltb before number after

ascending_reads : Reads u32_text Number ascending_at
ascending_reads = tested_reads u32_text (λ _ number. number < 2 ^ 32) (λ before number. After (λ (one other : ℕ). one < other) before number) (follows ltb) u32_at u32_reads follows_after after_follows

-- numbers that follow one another are an ascending list
rising_increasing : (numbers : List ℕ) → Rising (λ (one other : ℕ). one < other) numbers → IsStrictlyIncreasing numbers
rising_increasing numbers rising k below = rising k 0 below

increasing_rising : (numbers : List ℕ) → IsStrictlyIncreasing numbers → Rising (λ (one other : ℕ). one < other) numbers
increasing_rising numbers increasing k d below =
    subst (λ n. n < get_or numbers (k + 1) d) (get_or_default numbers k 0 d (omega arith))
    (subst (λ n. get_or numbers k 0 < n) (get_or_default numbers (k + 1) 0 d below) (increasing k below))

ascending_from : (numbers : List ℕ) → (length numbers < 2 ^ 32) × Follow (λ (number : ℕ). number) Number None numbers → AreAscending numbers
ascending_from numbers follow = record {
  fewer = follow.0;
  ascending = rising_increasing numbers (subst (Rising (λ (one other : ℕ). one < other)) (map-id numbers) (follow_rising (λ (number : ℕ). number) (λ (one other : ℕ). one < other) (λ number. number < 2 ^ 32) None numbers follow.1));
  fit = follow_all (λ (number : ℕ). number) (λ (one other : ℕ). one < other) (λ number. number < 2 ^ 32) None numbers follow.1;
}

ascending_to : (numbers : List ℕ) → AreAscending numbers → (length numbers < 2 ^ 32) × Follow (λ (number : ℕ). number) Number None numbers
ascending_to numbers are =
    (are.fewer, follow_of (λ (number : ℕ). number) (λ (one other : ℕ). one < other) (λ number. number < 2 ^ 32) numbers are.fit (subst (Rising (λ (one other : ℕ). one < other)) (sym (map-id numbers)) (increasing_rising numbers are.ascending)))

pub positions_reads : {B : Type 0} → Reads {B = B} (counted_text u32_text u32_text) (λ _ numbers. AreAscending numbers) (λ _. positions_at)
positions_reads {B} = reads_as (counted_text u32_text u32_text) (λ _ numbers. (length numbers < 2 ^ 32) × Follow (λ (number : ℕ). number) Number None numbers) (λ _ numbers. AreAscending numbers) (λ _. positions_at)
    (counted_reads (2 ^ 32) u32_text u32_at (λ (number : ℕ). number) u32_text Number ascending_at u32_reads ascending_reads)
    (λ _ numbers. ascending_from numbers) (λ _ numbers. ascending_to numbers)

-- a posting by itself
abbrev pub Own : ℕ × List ℕ → Type 0
Own posting = (posting.0 < 2 ^ 32) × AreAscending posting.1

-- a posting that may stand behind the document of the one before it
abbrev pub MayBePosting : Option ℕ → ℕ × List ℕ → Type 0
MayBePosting before posting = Own posting × After (λ (one other : ℕ). one < other) before posting.0

pub posting_reads : Reads posting_text MayBePosting posting_at
unfolding posting_at
posting_reads = reads_as posting_text (λ before posting. Number before posting.0 × AreAscending posting.1) MayBePosting posting_at
    (both_reads u32_text (counted_text u32_text u32_text) Number (λ _ numbers. AreAscending numbers) ascending_at positions_at ascending_reads positions_reads)
    (λ _ posting may. ((may.0.0, may.1), may.0.1)) (λ _ posting may. ((may.0.0, may.1), may.0.1))

pub postings_from : (postings : List (ℕ × List ℕ)) → (length postings < 2 ^ 32) × Follow (λ (posting : ℕ × List ℕ). posting.0) MayBePosting None postings → ArePostings postings
postings_from postings follow =
    let own : All Own postings = follow_all (λ (posting : ℕ × List ℕ). posting.0) (λ (one other : ℕ). one < other) Own None postings follow.1 in
    record {
      documents_are = record {
        fewer = omega (arith, follow.0, length-map postings (λ (posting : ℕ × List ℕ). posting.0));
        ascending = rising_increasing (documents postings) (follow_rising (λ (posting : ℕ × List ℕ). posting.0) (λ (one other : ℕ). one < other) Own None postings follow.1);
        fit = All-map (λ number. number < 2 ^ 32) (λ (posting : ℕ × List ℕ). posting.0) postings (All-weaker Own (λ posting. posting.0 < 2 ^ 32) (λ posting may. may.0) postings own);
      };
      positions_are = All-weaker Own (λ posting. AreAscending posting.1) (λ posting may. may.1) postings own;
    }

fits_at : (postings : List (ℕ × List ℕ)) → ArePostings postings → (k : ℕ) (d : ℕ × List ℕ) → k < length postings → (get_or postings k d).0 < 2 ^ 32
fits_at postings are k d below =
    let first : ℕ × List ℕ → ℕ = λ posting. posting.0 in
    subst (λ n. n < 2 ^ 32) (get_or-map first postings k d 0 below) (are.documents_are.fit k 0 (omega (arith, below, length-map postings first)))

pub postings_to : (postings : List (ℕ × List ℕ)) → ArePostings postings → (length postings < 2 ^ 32) × Follow (λ (posting : ℕ × List ℕ). posting.0) MayBePosting None postings
postings_to postings are = (
  omega (arith, are.documents_are.fewer, length-map postings (λ (posting : ℕ × List ℕ). posting.0)),
  follow_of (λ (posting : ℕ × List ℕ). posting.0) (λ (one other : ℕ). one < other) Own postings
      (λ k d below. (fits_at postings are k d below, are.positions_are k d below))
      (increasing_rising (documents postings) are.documents_are.ascending),
)

pub postings_reads : {B : Type 0} → Reads {B = B} (counted_text u32_text posting_text) (λ _ postings. ArePostings postings) (λ _. postings_at)
postings_reads {B} = reads_as (counted_text u32_text posting_text) (λ _ postings. (length postings < 2 ^ 32) × Follow (λ (posting : ℕ × List ℕ). posting.0) MayBePosting None postings) (λ _ postings. ArePostings postings) (λ _. postings_at)
    (counted_reads (2 ^ 32) u32_text u32_at (λ (posting : ℕ × List ℕ). posting.0) posting_text MayBePosting posting_at u32_reads posting_reads)
    (λ _ postings. postings_from postings) (λ _ postings. postings_to postings)

some_postings_reads : {B : Type 0} → Reads {B = B} (counted_text u32_text posting_text) (λ _ postings. ArePostings postings × (0 < length postings)) (λ _. some_postings_at)
unfolding some_postings_at
some_postings_reads {B} =
    let law = tested_reads {B = Unit {0}} (counted_text u32_text posting_text) (λ _ postings. ArePostings postings) (λ _ postings. 0 < length postings) (λ _ postings. ltb 0 (length postings)) postings_at postings_reads (λ _ postings e. ltb-true 0 (length postings) e) (λ _ postings some. lt-ltb 0 (length postings) some) in
    record { takes = λ _. law.takes tt; again = λ _. law.again tt }

-- ---- terms

-- one term comes before another
abbrev pub Before : ℕ × List ℕ → ℕ × List ℕ → Type 0
Before one other = term_cmp one other ≡ Less

less_is : (answer : Ordering) → is_lt answer ≡ true → answer ≡ Less
less_is Less e = refl
less_is Equal e = cc
less_is Greater e = cc

pub term_follows_after : (before : Option (ℕ × List ℕ)) (term : ℕ × List ℕ) → follows is_term_before before term ≡ true → After Before before term
term_follows_after None term e = tt
term_follows_after (Some before) term e = less_is (term_cmp before term) e

pub term_after_follows : (before : Option (ℕ × List ℕ)) (term : ℕ × List ℕ) → After Before before term → follows is_term_before before term ≡ true
term_after_follows None term after = refl
term_after_follows (Some before) term after = ap is_lt after

abbrev IsTerm : ℕ × List ℕ → Type 0
IsTerm term = (term.0 < 2 ^ 32) × (length term.1 < 2 ^ 32)

term_reads : Reads term_text (λ before term. IsTerm term × After Before before term) term_at
unfolding term_at
term_reads =
    let parts = both_reads {B = Unit {0}} u32_text string_text (λ _ field. field < 2 ^ 32) (λ _ bytes. length bytes < 2 ^ 32) (λ _. u32_at) string_at u32_reads string_reads in
    tested_reads term_text (λ _ term. IsTerm term) (λ before term. After Before before term) (follows is_term_before) (both_at (λ (_ : Unit {0}). u32_at) string_at tt)
    (record { takes = λ _. parts.takes tt; again = λ _. parts.again tt }) term_follows_after term_after_follows

-- a row that may stand behind the term of the one before it
abbrev pub MayStand : Option (ℕ × List ℕ) → TermRow → Type 0
MayStand before row = IsRow row × After Before before row.term

pub row_reads : Reads row_text MayStand row_at
unfolding row_at
row_reads =
    let law = both_reads term_text (counted_text u32_text posting_text) (λ before term. IsTerm term × After Before before term) (λ _ postings. ArePostings postings × (0 < length postings)) term_at some_postings_at term_reads some_postings_reads in
    let made = made_reads row_of (λ (row : TermRow). (row.term, row.postings)) (both_text term_text (counted_text u32_text posting_text)) (λ before pair. (IsTerm pair.0 × After Before before pair.0) × (ArePostings pair.1 × (0 < length pair.1))) (both_at term_at some_postings_at) law (λ _. refl) (λ _. refl) in
    reads_as row_text (λ before row. (IsTerm row.term × After Before before row.term) × (ArePostings row.postings × (0 < length row.postings))) MayStand row_at made
    (λ _ row may. (record { field = may.0.0.0; short = may.0.0.1; some = may.1.1; postings_are = may.1.0 }, may.0.1))
    (λ _ row may. (((may.0.field, may.0.short), may.1), (may.0.postings_are, may.0.some)))

pub term_cmp_total : IsTotalOrder term_cmp
term_cmp_total = then_total (on_total (λ (term : ℕ × List ℕ). term.0) nat_cmp_total) (on_total (λ (term : ℕ × List ℕ). term.1) nat_list_cmp_total)

-- terms in order, by each and the next
pub ascending_from_adjacent : (terms : List (ℕ × List ℕ)) → ((k : ℕ) (d : ℕ × List ℕ) → k + 1 < length terms → term_cmp (get_or terms k d) (get_or terms (k + 1) d) ≡ Less) → AreTerms terms
ascending_from_adjacent terms adjacent = let d : ℕ × List ℕ = (0, []) in sorted_from_all_adjacent term_cmp_total terms d (λ k below. adjacent k d below)

pub rows_from : (rows : List TermRow) → (length rows < 2 ^ 64) × Follow (λ (row : TermRow). row.term) MayStand None rows → AreRows rows
rows_from rows follow = record {
  fewer = follow.0;
  ascending = ascending_from_adjacent (map (λ (row : TermRow). row.term) rows) (follow_rising (λ (row : TermRow). row.term) Before IsRow None rows follow.1);
  rows_are = follow_all (λ (row : TermRow). row.term) Before IsRow None rows follow.1;
}

pub rows_to : (rows : List TermRow) → AreRows rows → (length rows < 2 ^ 64) × Follow (λ (row : TermRow). row.term) MayStand None rows
rows_to rows are = (
  are.fewer,
  follow_of (λ (row : TermRow). row.term) Before IsRow rows are.rows_are
      (λ k d below. Less-from_sorted term_cmp (map (λ (row : TermRow). row.term) rows) k (k + 1) d are.ascending (omega arith) below),
)

pub rows_reads : Reads {B = Unit {0}} rows_text (λ _ rows. AreRows rows) (λ _. rows_at)
rows_reads = reads_as rows_text (λ _ rows. (length rows < 2 ^ 64) × Follow (λ (row : TermRow). row.term) MayStand None rows) (λ _ rows. AreRows rows) (λ _. rows_at)
    (counted_reads (2 ^ 64) u64_text u64_at (λ (row : TermRow). row.term) row_text MayStand row_at u64_reads row_reads)
    (λ _ rows. rows_from rows) (λ _ rows. rows_to rows)
