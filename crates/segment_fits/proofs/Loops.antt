-- What holds of all of a list that a loop goes over.
use Rattle.std.proofs.Common.{◌≡◌, ℕ, ◌+◌, ◌<◌, inl, inr, Bool, true, false, List, [], ◌∷◌, length, get_or, slice_get, Some, None, sym, ap, subst, ◌∙◌, arith}
use Rattle.std.specs.List.{All}
use Rattle.std.proofs.lemmas.Bool.{cases_lt, true≢false}
use Rattle.std.proofs.lemmas.List.{get_or-map}
use Rattle.std.proofs.lemmas.Option.{get_or_from_slice_get, slice_get_within}
use Rattle.block_bits.specs.Flags.{is_marked}
use Rattle.block_bits.specs.Places.{next_place}
use Rattle.block_bits.proofs.Places.{next_place-empty, next_place-is}
use Rattle.doc_values.specs.Values.{documents}

-- one more of them
pub at_more : {X : Type 0} (P : X → Type 0) (xs : List X) (n : ℕ) (x : X) → ((k : ℕ) (d : X) → k < n → P (get_or xs k d)) → slice_get xs n ≡ Some x → P x → (k : ℕ) (d : X) → k < n + 1 → P (get_or xs k d)
at_more P xs n x all at own k d h =
    elim (cases_lt k n) [
      | inl before ↦ all k d before
      | inr here ↦
          let same : n ≡ k = omega (arith, here, h) in
          subst P (sym (get_or_from_slice_get xs n x d at) ∙ ap (λ i. get_or xs i d) same) own
    ]

-- one that fails
pub fails_at : {X : Type 0} (P : X → Type 0) (xs : List X) (n : ℕ) (x : X) → slice_get xs n ≡ Some x → All P xs → P x
fails_at P xs n x at all = subst P (get_or_from_slice_get xs n x x at) (all n x (slice_get_within xs n x at))

-- the document of a row
pub doc_within : {X : Type 0} (rows : List (ℕ × List X)) (count row : ℕ) → All (λ (r : ℕ × List X). r.0 < count) rows → row < length rows → get_or (documents rows) row 0 < count
doc_within {X} [] count row within h = absurd (omega (arith, h))
doc_within {X} (r ∷ rows) count row within h =
    let is : get_or (documents (r ∷ rows)) row 0 ≡ (get_or (r ∷ rows) row r).0 = get_or-map (λ (x : ℕ × List X). x.0) (r ∷ rows) row r 0 h in
    let less : (get_or (r ∷ rows) row r).0 < count = within row r h in
    omega (arith, is, less)

-- flags up to the next that is set, and where none is
pub marks_more : (P : ℕ → Type 0) (flags : List Bool) (from at : ℕ) → next_place is_marked from flags ≡ Some at → ((doc : ℕ) → doc < from → get_or flags doc false ≡ true → P doc) → P at
    → (doc : ℕ) → doc < at + 1 → get_or flags doc false ≡ true → P doc
marks_more P flags from at next all own doc h set =
    let is = next_place-is is_marked from flags false at next in
    elim (cases_lt doc from) [
      | inl before ↦ all doc before set
      | inr past ↦ elim (cases_lt doc at) [
        | inl between ↦ absurd (true≢false (sym set ∙ is.before doc past between))
        | inr here ↦ let same : at ≡ doc = omega (arith, here, h) in subst P same own
      ]
    ]

pub marks_all : (P : ℕ → Type 0) (flags : List Bool) (from : ℕ) → next_place is_marked from flags ≡ None → ((doc : ℕ) → doc < from → get_or flags doc false ≡ true → P doc)
    → (doc : ℕ) → doc < length flags → get_or flags doc false ≡ true → P doc
marks_all P flags from none all doc h set =
    elim (cases_lt doc from) [
      | inl before ↦ all doc before set
      | inr past ↦ absurd (true≢false (sym set ∙ next_place-empty is_marked from flags false none doc past h))
    ]

pub mark_at : (flags : List Bool) (from at : ℕ) → next_place is_marked from flags ≡ Some at → get_or flags at false ≡ true
mark_at flags from at next = (next_place-is is_marked from flags false at next).here
