-- Postings that a cursor goes over, those of live documents kept.
use Rattle.std.proofs.Common.{◌≡◌, ℕ, ◌+◌, ◌<◌, Bool, false, List, [], ◌∷◌, ◌++◌, get_or, drop, slice_get, Some, refl, sym, ap, subst, ◌∙◌}
use Rattle.std.specs.List.{All}
use Rattle.std.proofs.lemmas.Option.{get_or_from_slice_get, slice_get_within}
use Rattle.segment_merge.specs.Merged.{kept}
use Rattle.segment_merge.proofs.Gathering.{split}
use Rattle.segment_merge.proofs.Steps.{left_at}

pub posting_within : (own postings : List (ℕ × List ℕ)) (documents at doc : ℕ) (positions : List ℕ) → All (λ (posting : ℕ × List ℕ). posting.0 < documents) postings → own ≡ postings → slice_get own at ≡ Some (doc, positions) → doc < documents
posting_within own postings documents at doc positions all same is =
    let there : slice_get postings at ≡ Some (doc, positions) = ap (λ (ps : List (ℕ × List ℕ)). slice_get ps at) (sym same) ∙ is in
    subst (λ (posting : ℕ × List ℕ). posting.0 < documents) (get_or_from_slice_get postings at (doc, positions) (doc, positions) there) (all at (doc, positions) (slice_get_within postings at (doc, positions) there))

pub kept_more : {X : Type 0} (base : ℕ) (live : List Bool) (row : ℕ × X) (rows : List (ℕ × X)) → kept base live (row ∷ rows) ≡ kept base live (row ∷ []) ++ kept base live rows
kept_more base live row rows =
    split (get_or live row.0 false)
    (λ is. rw is refl)
    (λ isnt. rw isnt refl)

pub kept_left : {X : Type 0} (base : ℕ) (live : List Bool) (rows : List (ℕ × X)) (at : ℕ) (row : ℕ × X) → slice_get rows at ≡ Some row → kept base live (drop at rows) ≡ kept base live (row ∷ []) ++ kept base live (drop (at + 1) rows)
kept_left base live rows at row is = ap (kept base live) (left_at rows at row is) ∙ kept_more base live row (drop (at + 1) rows)
