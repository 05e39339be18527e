-- The places of a set, one after the other.
use Rattle.std.proofs.Common.{◌≡◌, ℕ, ◌+◌, ◌-◌, ◌<◌, All, length, Bool, List, [], ◌∷◌, ◌++◌, drop, Some, None, append_assoc, append-nil, sym, ap, ◌∙◌, arith}
use Rattle.std.proofs.lemmas.List.{drop-drop, get_or_default}
use Rattle.block_bits.specs.Flags.{is_marked}
use Rattle.block_bits.specs.Places.{next_place}
use Rattle.segment_parts.specs.Text.{marked_places}
use Rattle.segment_parts.specs.Marks.{length-marked_places, marked_places-next, marked_places-none, marked_places-within}

abbrev left : ℕ → List Bool → List ℕ
left from flags = marked_places from (drop from flags)

pub listed_more : (flags : List Bool) (from place : ℕ) (now all : List ℕ) → now ++ left from flags ≡ all → next_place is_marked from flags ≡ Some place → (now ++ place ∷ []) ++ left (place + 1) flags ≡ all
listed_more flags from place now all was found =
    let more = marked_places-next from (drop from flags) place found in
    let on : from + (place + 1 - from) ≡ place + 1 = omega (arith, more.0) in
    let behind : marked_places from (drop from flags) ≡ place ∷ marked_places (place + 1) (drop (place + 1) flags) =
    more.1 ∙ ap (λ (rest : List Bool). place ∷ marked_places (place + 1) rest) (drop-drop (place + 1 - from) from flags ∙ ap (λ n. drop n flags) on) in
    append_assoc now (place ∷ []) (left (place + 1) flags) ∙ ap (λ (ps : List ℕ). now ++ ps) (sym behind) ∙ was

pub listed_all : (flags : List Bool) (from : ℕ) (now all : List ℕ) → now ++ left from flags ≡ all → next_place is_marked from flags ≡ None → now ≡ all
listed_all flags from now all was none =
    let nothing : marked_places from (drop from flags) ≡ [] = marked_places-none from (drop from flags) none in
    sym (append-nil now) ∙ ap (λ (ps : List ℕ). now ++ ps) (sym nothing) ∙ was

pub places_below : (flags : List Bool) (count : ℕ) → length flags ≡ count → All (λ place. place < count) (marked_places 0 flags)
places_below flags count long k d h =
    omega (arith, (marked_places-within 0 flags k (omega (arith, h, length-marked_places 0 flags))).1, get_or_default (marked_places 0 flags) k d 0 h, long)
