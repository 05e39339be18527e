-- Documents of a term that ascend.
use Rattle.std.proofs.Common.{◌≡◌, ◌↔◌, ◌⊎◌, inl, inr, ℕ, suc, ◌+◌, ◌-◌, ◌<◌, ◌≤◌, Bool, true, false, IsTrue, List, [], ◌∷◌, get_or, slice_get, drop, Some, None, Contains, refl, sym, ap, subst, ◌∙◌, arith}
use Rattle.std.specs.Prelude.{nat_le, nat_eq}
use Rattle.std.specs.Option.{option_map}
use Rattle.std.specs.List.{position_or_len}
use Rattle.std.specs.List.Sorted.{IsStrictlyIncreasing}
use Rattle.std.proofs.lemmas.Bool.{cases_lt, false≢true}
use Rattle.std.proofs.lemmas.Bool.Decides.{nat_tests}
use Rattle.std.proofs.lemmas.List.{get_or_default}
use Rattle.std.proofs.lemmas.Map.Keys.{sorted_from_strictly_increasing, below_from_sorted}
use Rattle.std.proofs.lemmas.Option.{same_Some}
use Rattle.postings.specs.Postings.{documents, Standing, present_document, place_from}

abbrev first : ℕ × List ℕ → ℕ
first posting = posting.0

abbrev from_document : ℕ → ℕ × List ℕ → Bool
from_document doc posting = nat_le doc posting.0

split : (b : Bool) → (b ≡ true) ⊎ (b ≡ false)
split true = inl refl
split false = inr refl

rest_ascends : (posting : ℕ × List ℕ) (postings : List (ℕ × List ℕ)) → IsStrictlyIncreasing (documents (posting ∷ postings)) → IsStrictlyIncreasing (documents postings)
rest_ascends posting postings ascend k below =
    let next : suc k + 1 ≡ suc (k + 1) = omega arith in
    rw next at (ascend (suc k) (omega arith))

pub first_from : (postings : List (ℕ × List ℕ)) (doc : ℕ) → IsStrictlyIncreasing (documents postings) → (option_map first (slice_get postings (position_or_len (from_document doc) postings)) ≡ Some doc) ↔ Contains (documents postings) doc
first_from [] doc ascend = (λ e. absurd (let no : ⊥ = cc in no), λ there. absurd (omega (arith, there.1)))
first_from (posting ∷ postings) doc ascend =
    elim (split (nat_le doc posting.0)) [
      | inl holds ↦
          let upto : doc ≤ posting.0 = grind (arith, nat_tests) in
          rw holds (
            λ e. (0, omega arith, same_Some posting.0 doc e),
            λ there. elim (cases_lt 0 there.0) [
              | inl later ↦
                  let less : posting.0 < get_or (documents (posting ∷ postings)) there.0 0 = below_from_sorted (documents (posting ∷ postings)) 0 there.0 0 (sorted_from_strictly_increasing (documents (posting ∷ postings)) ascend) later there.1 in
                  let is : get_or (documents (posting ∷ postings)) there.0 0 ≡ doc = get_or_default (documents (posting ∷ postings)) there.0 0 doc there.1 ∙ there.2 in
                  absurd (omega (arith, less, is, upto))
              | inr begin ↦
                  let here : there.0 ≡ 0 = omega arith in
                  let is : posting.0 ≡ doc = ap (λ k. get_or (documents (posting ∷ postings)) k doc) (sym here) ∙ there.2 in
                  ap Some is
            ],
          )
      | inr fails ↦
          let below : posting.0 < doc = grind (arith, nat_tests) in
          let rest = first_from postings doc (rest_ascends posting postings ascend) in
          let next : 1 + position_or_len (from_document doc) postings ≡ suc (position_or_len (from_document doc) postings) = omega arith in
          rw (fails, next) (
            λ e. (let there = rest.0 e in (suc there.0, omega (arith, there.1), there.2)),
            λ there. elim (cases_lt 0 there.0) [
              | inl later ↦
                  let on : there.0 ≡ suc (there.0 - 1) = omega arith in
                  let back = rw on at there.2 in
                  rest.1 (there.0 - 1, omega (arith, there.1, on), back)
              | inr begin ↦
                  let here : there.0 ≡ 0 = omega arith in
                  let is : posting.0 ≡ doc = ap (λ k. get_or (documents (posting ∷ postings)) k doc) (sym here) ∙ there.2 in
                  absurd (omega (arith, is, below))
            ],
          )
    ]

-- a cursor that went on to the first posting at or after a document
pub record IsAdvanced (list : List (ℕ × List ℕ)) (doc : ℕ) (old now : Standing) : Type 0 where
  pub own : old ≡ record { postings = list; at = 0 }
  pub same : now.postings ≡ old.postings
  pub place : now.at ≡ place_from doc old
  pub ascend : IsStrictlyIncreasing (documents old.postings)

advanced_document : (list : List (ℕ × List ℕ)) (doc : ℕ) (old now : Standing) → IsAdvanced list doc old now → present_document now ≡ option_map first (slice_get list (position_or_len (from_document doc) list))
advanced_document list doc old now it =
    let start : place_from doc old ≡ 0 + position_or_len (from_document doc) (drop 0 list) = ap (place_from doc) it.own in
    let place : now.at ≡ position_or_len (from_document doc) list = it.place ∙ start ∙ omega arith in
    let list_is : now.postings ≡ list = it.same ∙ ap (λ (s : Standing). s.postings) it.own in
    ap (λ k. option_map first (slice_get now.postings k)) place ∙ ap (λ ps. option_map first (slice_get ps (position_or_len (from_document doc) list))) list_is

own_ascends : (list : List (ℕ × List ℕ)) (doc : ℕ) (old now : Standing) → IsAdvanced list doc old now → IsStrictlyIncreasing (documents list)
own_ascends list doc old now it = subst (λ (s : Standing). IsStrictlyIncreasing (documents s.postings)) it.own it.ascend

eq_same : (own doc : ℕ) → IsTrue (nat_eq own doc) → own ≡ doc
eq_same own doc holds = grind (arith, nat_tests)

same_eq : (own doc : ℕ) → own ≡ doc → IsTrue (nat_eq own doc)
same_eq own doc same = grind (arith, nat_tests)

pub posted_some : (list : List (ℕ × List ℕ)) (doc own : ℕ) (old now : Standing) → IsAdvanced list doc old now → Some own ≡ present_document now → IsTrue (nat_eq own doc) ↔ Contains (documents list) doc
posted_some list doc own old now it is =
    let law = first_from list doc (own_ascends list doc old now it) in
    let there = is ∙ advanced_document list doc old now it in (
      λ holds. law.0 (sym there ∙ ap Some (eq_same own doc holds)),
      λ has. same_eq own doc (same_Some own doc (there ∙ law.1 has)),
    )

pub posted_none : (list : List (ℕ × List ℕ)) (doc : ℕ) (old now : Standing) → IsAdvanced list doc old now → None ≡ present_document now → IsTrue false ↔ Contains (documents list) doc
posted_none list doc old now it is =
    let law = first_from list doc (own_ascends list doc old now it) in
    let there = is ∙ advanced_document list doc old now it in (
      λ no. absurd (false≢true no),
      λ has. absurd (let e : None ≡ Some doc = there ∙ law.1 has in let no : ⊥ = cc in no),
    )
