-- A loop that puts the documents of postings into a set.
use Rattle.std.proofs.Common.{◌≡◌, ℕ, ◌+◌, ◌<◌, ◌≤◌, Bool, true, false, ◌||◌, nat_eq, List, [], length, get_or, set, take, refl, sym, ap, ◌∙◌, arith, inl, inr}
use Rattle.std.proofs.lemmas.Bool.{cases_eq}
use Rattle.std.proofs.lemmas.Bool.Decides.{nat_tests}
use Rattle.std.proofs.lemmas.List.{length-set, get_or-set_same, get_or-set_other, take_all}
use Rattle.std.proofs.lemmas.List.Folds.{list_any_more}
use Rattle.postings.specs.Marks.{has_document}
use Rattle.postings.specs.Kept.{IsAt}

-- the first `at` postings are in the set besides what was there
pub record IsMarking (postings : List (ℕ × List ℕ)) (old now : List Bool) (count at : ℕ) (rest : List ℕ) (plain : Bool) : Type 0 where
  pub is_at : IsAt postings count at rest plain
  pub long : length now ≡ length old
  pub marked : (document : ℕ) → document < length old → get_or now document false ≡ (get_or old document false || has_document document (take at postings))

or_false : (test : Bool) → (test || false) ≡ test
or_false true = refl
or_false false = refl

or_true : (test : Bool) → (test || true) ≡ true
or_true true = refl
or_true false = refl

or_assoc : (one two three : Bool) → ((one || two) || three) ≡ (one || (two || three))
or_assoc true two three = refl
or_assoc false two three = refl

pub marking_start : (postings : List (ℕ × List ℕ)) (old : List Bool) (count : ℕ) (rest : List ℕ) (plain : Bool) → IsAt postings count 0 rest plain → IsMarking postings old old count 0 rest plain
marking_start postings old count rest plain is = record {
  is_at = is;
  long = refl;
  marked = λ document inside. sym (or_false (get_or old document false));
}

-- one document more
one_more : (postings : List (ℕ × List ℕ)) (old now : List Bool) (at own document : ℕ) → at < length postings → (get_or postings at (0, [])).0 ≡ own → length now ≡ length old → document < length old → get_or now document false ≡ (get_or old document false || has_document document (take at postings)) → get_or (set now own true) document false ≡ (get_or old document false || has_document document (take (at + 1) postings))
one_more postings old now at own document inside is long within was =
    let d : ℕ × List ℕ = (0, []) in
    let more : has_document document (take (at + 1) postings) ≡ (has_document document (take at postings) || nat_eq own document) =
    list_any_more (λ (posting : ℕ × List ℕ). nat_eq posting.0 document) postings at d inside ∙ ap (λ n. has_document document (take at postings) || nat_eq n document) is in
    elim (cases_eq document own) [
      | inl same ↦
          let yes : nat_eq own document ≡ true = grind (arith, nat_tests) in
          let there : get_or (set now own true) document false ≡ true = ap (λ n. get_or (set now own true) n false) same ∙ get_or-set_same now own true false (omega (arith, long, same)) in
          there ∙ sym (ap (λ test. get_or old document false || test) (more ∙ ap (λ test. has_document document (take at postings) || test) yes ∙ or_true (has_document document (take at postings))) ∙ or_true (get_or old document false))
      | inr other ↦
          let no : nat_eq own document ≡ false = grind (arith, nat_tests) in
          get_or-set_other now own document true false other ∙ was
          ∙ sym (ap (λ test. get_or old document false || test) (more ∙ ap (λ test. has_document document (take at postings) || test) no ∙ or_false (has_document document (take at postings))))
    ]

pub marking_more : (postings : List (ℕ × List ℕ)) (old now : List Bool) (count at : ℕ) (rest : List ℕ) (plain : Bool) (own : ℕ) (after : List ℕ) → IsMarking postings old now count at rest plain → at < length postings → (get_or postings at (0, [])).0 ≡ own → IsAt postings count (at + 1) after plain → IsMarking postings old (set now own true) count (at + 1) after plain
marking_more postings old now count at rest plain own after was inside is next = record {
  is_at = next;
  long = length-set now own true ∙ was.long;
  marked = λ document within. one_more postings old now at own document inside is was.long within (was.marked document within);
}

pub marking_end : (postings : List (ℕ × List ℕ)) (old now : List Bool) (count at : ℕ) (rest : List ℕ) (plain : Bool) → IsMarking postings old now count at rest plain → count ≤ at → (document : ℕ) → document < length old → get_or now document false ≡ (get_or old document false || has_document document postings)
marking_end postings old now count at rest plain was past document inside =
    was.marked document inside ∙ ap (λ list. get_or old document false || has_document document list) (take_all at postings (omega (arith, was.is_at.counts)))
