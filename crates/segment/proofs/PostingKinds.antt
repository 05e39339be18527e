-- Postings of words, keywords and numbers.
use Rattle.std.proofs.Common.{◌≡◌, ◌⊎◌, inl, inr, ℕ, ℤ, ◌<◌, ◌≤◌, ◌↔◌, Bool, true, false, IsTrue, List, [], ◌∷◌, length, map, Contains, All, w64, FitsSigned, refl, sym, ap, subst, ◌∙◌, arith}
use Rattle.std.proofs.lemmas.Bool.{false≢true}
use Rattle.std.specs.Prelude.{nat_eq}
use Rattle.std.proofs.lemmas.List.{get_or_past}
use Rattle.std.proofs.lemmas.List.Elements.{All-nil, All-head, All-tail}
use Rattle.std.specs.Prelude.{slice_index_or}
use Rattle.doc_values.specs.Values.{values_of}
use Rattle.term_table.specs.Keys.{number_key}
use Rattle.segment_parts.specs.Agree.{IsWordAt, IsKeywordAt, IsNumberAt}

pub no_word : (present : List Bool) (positions : ℕ) (posting : ℕ × List ℕ) → positions ≡ 0 → length posting.1 ≡ positions → IsTrue false ↔ IsWordAt present posting
no_word present positions posting none long = (λ no. absurd (false≢true no), λ is. absurd (omega (arith, is.positions, long, none)))

pub no_document : (present : List Bool) (doc : ℕ) (posting : ℕ × List ℕ) → length present ≤ doc → posting.0 ≡ doc → IsTrue false ↔ IsWordAt present posting
no_document present doc posting past own = (
  λ no. absurd (false≢true no),
  λ is. absurd (false≢true (sym (get_or_past present posting.0 false (omega (arith, past, own))) ∙ is.valued)),
)

pub a_word : (present : List Bool) (doc positions : ℕ) (test : Bool) (posting : ℕ × List ℕ) → (positions ≡ 0 → ⊥) → test ≡ slice_index_or present doc false → posting.0 ≡ doc → length posting.1 ≡ positions → IsTrue test ↔ IsWordAt present posting
a_word present doc positions test posting some is own long =
    let same : test ≡ slice_index_or present posting.0 false = is ∙ ap (λ k. slice_index_or present k false) (sym own) in (
      λ holds. record { positions = omega (arith, long, some); valued = sym same ∙ holds },
      λ at. same ∙ at.valued,
    )

pub no_keyword : (rows : List (ℕ × List ℕ)) (ordinal positions : ℕ) (posting : ℕ × List ℕ) → 0 < positions → length posting.1 ≡ positions → IsTrue false ↔ IsKeywordAt rows ordinal posting
no_keyword rows ordinal positions posting some long = (λ no. absurd (false≢true no), λ is. absurd (omega (arith, is.positions, long, some)))

pub a_keyword : (rows : List (ℕ × List ℕ)) (ordinal doc positions : ℕ) (values : List ℕ) (test : Bool) (posting : ℕ × List ℕ) → positions ≤ 0 → values ≡ values_of doc rows → (IsTrue test ↔ Contains values ordinal) → posting.0 ≡ doc → length posting.1 ≡ positions → IsTrue test ↔ IsKeywordAt rows ordinal posting
a_keyword rows ordinal doc positions values test posting none is found own long =
    let same : values ≡ values_of posting.0 rows = is ∙ ap (λ k. values_of k rows) (sym own) in (
      λ holds. record { positions = omega (arith, long, none); valued = subst (λ vs. Contains vs ordinal) same (found.0 holds) },
      λ at. found.1 (subst (λ vs. Contains vs ordinal) (sym same) at.valued),
    )

pub no_number : (rows : List (ℕ × List ℤ)) (key : List ℕ) (positions : ℕ) (posting : ℕ × List ℕ) → 0 < positions → length posting.1 ≡ positions → IsTrue false ↔ IsNumberAt rows key posting
no_number rows key positions posting some long = (λ no. absurd (false≢true no), λ is. absurd (omega (arith, is.positions, long, some)))

pub a_number : (rows : List (ℕ × List ℤ)) (key : List ℕ) (doc positions : ℕ) (values : List ℤ) (test : Bool) (posting : ℕ × List ℕ) → positions ≤ 0 → values ≡ values_of doc rows → (IsTrue test ↔ Contains (map number_key values) key) → posting.0 ≡ doc → length posting.1 ≡ positions → IsTrue test ↔ IsNumberAt rows key posting
a_number rows key doc positions values test posting none is found own long =
    let same : values ≡ values_of posting.0 rows = is ∙ ap (λ k. values_of k rows) (sym own) in (
      λ holds. record { positions = omega (arith, long, none); valued = subst (λ vs. Contains (map number_key vs) key) same (found.0 holds) },
      λ at. found.1 (subst (λ vs. Contains (map number_key vs) key) (sym same) at.valued),
    )

split : (b : Bool) → (b ≡ true) ⊎ (b ≡ false)
split true = inl refl
split false = inr refl

-- the values of a document fit where all values do
pub values_fit : (rows : List (ℕ × List ℤ)) (doc : ℕ) → All (λ (row : ℕ × List ℤ). All (FitsSigned w64) row.1) rows → All (FitsSigned w64) (values_of doc rows)
values_fit [] doc fit = All-nil (FitsSigned w64)
values_fit (row ∷ rows) doc fit =
    let Fit : ℕ × List ℤ → Type 0 = λ r. All (FitsSigned w64) r.1 in
    let here = All-head Fit row rows fit in
    let rest = values_fit rows doc (All-tail Fit row rows fit) in
    elim (split (nat_eq row.0 doc)) [
      | inl holds ↦ rw holds here
      | inr fails ↦ rw fails rest
    ]
