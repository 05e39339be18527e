-- One step of a walk over a list, or of a cursor over postings.
use Rattle.std.proofs.Common.{◌≡◌, ℕ, zero, suc, ◌+◌, ◌<◌, List, [], ◌∷◌, length, slice_get, drop, Option, Some, None, refl, ap, ◌∙◌, arith}
use Rattle.std.specs.Prelude.{min}
use Rattle.std.specs.Option.{option_map, option_map_or}
use Rattle.std.proofs.lemmas.List.{drop_more}
use Rattle.std.proofs.lemmas.Option.{get_or_from_slice_get, slice_get_within}

-- the first of what is left
pub left_at : {X : Type 0} (xs : List X) (at : ℕ) (x : X) → slice_get xs at ≡ Some x → drop at xs ≡ x ∷ drop (at + 1) xs
left_at xs at x is = drop_more xs at x (slice_get_within xs at x is) ∙ ap (λ y. y ∷ drop (at + 1) xs) (get_or_from_slice_get xs at x x is)

-- the posting that a cursor is at, by its document and its positions
pub posting_is : (postings : List (ℕ × List ℕ)) (at doc : ℕ) → option_map (λ (posting : ℕ × List ℕ). posting.0) (slice_get postings at) ≡ Some doc
    → slice_get postings at ≡ Some (doc, option_map_or (λ (posting : ℕ × List ℕ). posting.1) (slice_get postings at) [])
posting_is postings at doc is = found (slice_get postings at) is
  where
    found : (o : Option (ℕ × List ℕ)) → option_map (λ (posting : ℕ × List ℕ). posting.0) o ≡ Some doc → o ≡ Some (doc, option_map_or (λ (posting : ℕ × List ℕ). posting.1) o [])
    found None e = absurd (cc (e))
    found (Some posting) e = let same : posting.0 ≡ doc = cc (e) in ap (λ d. let own : ℕ × List ℕ = (d, posting.1) in Some own) same

pub next_left : (postings more : List (ℕ × List ℕ)) (at next : ℕ) → more ≡ postings → next ≡ min (at + 1) (length postings) → at < length postings → drop next more ≡ drop (at + 1) postings
next_left postings more at next same place inside =
    let e : next ≡ at + 1 = omega (arith, place, inside) in
    ap (drop next) same ∙ ap (λ n. drop n postings) e

pub end_left : (postings : List (ℕ × List ℕ)) (at : ℕ) → option_map (λ (posting : ℕ × List ℕ). posting.0) (slice_get postings at) ≡ None → drop at postings ≡ []
end_left [] zero none = refl
end_left [] (suc at) none = refl
end_left (posting ∷ postings) zero none = absurd (cc (none))
end_left (posting ∷ postings) (suc at) none = end_left postings at none
