-- A loop that tests each posting from a cursor on.
use Rattle.std.proofs.Common.{◌≡◌, ℕ, ◌+◌, ◌<◌, ◌≤◌, ◌↔◌, true, false, IsTrue, List, [], length, slice_get, Option, Some, None, All, min, arith, refl, sym, ap, subst, ◌∙◌, inl, inr}
use Rattle.std.specs.Option.{option_map, option_map_or}
use Rattle.std.proofs.lemmas.Bool.{cases_lt}
use Rattle.std.proofs.lemmas.Option.{slice_get_within, slice_get-get_or, same_Some}
use Rattle.postings.specs.Postings.{Standing, present, present_document, present_positions}
use Rattle.segment_parts.specs.Passes.{PassBefore, pass_none, pass_more, answer_all, answer_fails}

pub record IsTested (P : ℕ × List ℕ → Type 0) (postings : List (ℕ × List ℕ)) (cursor : Standing) (doc : Option ℕ) : Type 0 where
  pub own : cursor.postings ≡ postings
  pub document : doc ≡ present_document cursor
  pub passes : PassBefore P postings cursor.at

-- the posting at which a cursor stands
pub record Stands (cursor : Standing) (doc : ℕ) : Type 0 where
  pub posting : ℕ × List ℕ
  pub is : slice_get cursor.postings cursor.at ≡ Some posting
  pub document : posting.0 ≡ doc
  pub positions : present_positions cursor ≡ posting.1

abbrev first : ℕ × List ℕ → ℕ
first posting = posting.0

abbrev second : ℕ × List ℕ → List ℕ
second posting = posting.1

some_posting : (o : Option (ℕ × List ℕ)) (doc : ℕ) → Some doc ≡ option_map first o → (posting : ℕ × List ℕ) × (o ≡ Some posting) × (posting.0 ≡ doc) × (option_map_or second o [] ≡ posting.1)
some_posting None doc e = absurd (let no : ⊥ = cc in no)
some_posting (Some posting) doc e = (posting, refl, sym (same_Some doc posting.0 e), refl)

pub stands_at : (cursor : Standing) (doc : ℕ) → Some doc ≡ present_document cursor → Stands cursor doc
stands_at cursor doc e =
    let found = some_posting (present cursor) doc e in
    record { posting = found.0; is = found.1; document = found.2; positions = found.3 }

pub tested_none : (P : ℕ × List ℕ → Type 0) (cursor : Standing) (doc : Option ℕ) → cursor.at ≡ 0 → doc ≡ present_document cursor → IsTested P cursor.postings cursor doc
tested_none P cursor doc start is = record { own = refl; document = is; passes = subst (PassBefore P cursor.postings) (sym start) (pass_none P cursor.postings) }

pub tested_more : (P : ℕ × List ℕ → Type 0) (postings : List (ℕ × List ℕ)) (cursor now : Standing) (doc : ℕ) (next : Option ℕ) → IsTested P postings cursor (Some doc) → ((posting : ℕ × List ℕ) → posting.0 ≡ doc → length posting.1 ≡ length (present_positions cursor) → P posting) → now.postings ≡ cursor.postings → now.at ≡ min (cursor.at + 1) (length cursor.postings) → next ≡ present_document now → IsTested P postings now next
tested_more P postings cursor now doc next was own same at_is is =
    let here = stands_at cursor doc was.document in
    let inside : cursor.at < length cursor.postings = slice_get_within cursor.postings cursor.at here.posting here.is in
    let on : now.at ≡ cursor.at + 1 = omega (arith, at_is, inside) in
    let more = pass_more P postings cursor.at here.posting was.passes (subst (λ ps. slice_get ps cursor.at ≡ Some here.posting) was.own here.is) (own here.posting here.document (ap length (sym here.positions))) in
    record { own = same ∙ was.own; document = is; passes = subst (PassBefore P postings) (sym on) more }

none_posting : (o : Option (ℕ × List ℕ)) → None ≡ option_map first o → o ≡ None
none_posting None e = refl
none_posting (Some posting) e = absurd (let no : ⊥ = cc in no)

pub tested_all : (P : ℕ × List ℕ → Type 0) (postings : List (ℕ × List ℕ)) (cursor : Standing) → IsTested P postings cursor None → IsTrue true ↔ All P postings
tested_all P postings cursor was =
    let none : slice_get cursor.postings cursor.at ≡ None = none_posting (present cursor) was.document in
    let past : length postings ≤ cursor.at = elim (cases_lt cursor.at (length cursor.postings)) [
      | inl inside ↦ absurd (let there = slice_get-get_or cursor.postings cursor.at (0, []) inside in let no : ⊥ = cc in no)
      | inr past ↦ subst (λ ps. length ps ≤ cursor.at) was.own past
    ] in
    answer_all P postings cursor.at was.passes past

pub tested_fails : (P : ℕ × List ℕ → Type 0) (postings : List (ℕ × List ℕ)) (cursor : Standing) (doc : ℕ) → IsTested P postings cursor (Some doc) → ((posting : ℕ × List ℕ) → posting.0 ≡ doc → length posting.1 ≡ length (present_positions cursor) → P posting → ⊥) → IsTrue false ↔ All P postings
tested_fails P postings cursor doc was never =
    let here = stands_at cursor doc was.document in
    answer_fails P postings cursor.at here.posting (subst (λ ps. slice_get ps cursor.at ≡ Some here.posting) was.own here.is) (never here.posting here.document (ap length (sym here.positions)))
