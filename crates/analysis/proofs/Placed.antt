-- The words of a text where they stand in it.
use Rattle.std.proofs.Common.{◌≡◌, ℕ, ◌+◌, ◌<◌, ◌≤◌, Bool, true, false, cond, List, [], ◌∷◌, map, filter, length, slice_range, IsUtf8, length-append, refl, ap, ◌∙◌, arith}
use Rattle.std.specs.List.{concat}
use Rattle.unicode_segmentation.specs.Segments.{with_offsets, has_alphanumeric}
use Rattle.unicode_segmentation.specs.Word.{is_word_break, word_bounds, words as unfolded_words}
use Rattle.unicode_segmentation.proofs.SegmentsLemmas.{map-with_offsets, length-with_offsets, length-segments, concat-segments, length-filter-le, segments_nonempty, StandAtOffsets-segments, AllPieces, StandAtOffsets}

-- the words as they stand in the text, each after the number of bytes before it
unfoldable pub placed_words : List ℕ → List (ℕ × List ℕ)
placed_words text = filter (λ (_, piece). has_alphanumeric piece) (with_offsets 0 (word_bounds text))

-- words stand in the text where they are said to, one after the other between two places, and none is empty
abbrev pub StandBetween : List ℕ → ℕ → ℕ → List (ℕ × List ℕ) → Type 0
StandBetween text from to [] = from ≤ to
StandBetween text from to (word ∷ words) =
    (from ≤ word.0) × (0 < length word.1) × (word.1 ≡ slice_range text word.0 (word.0 + length word.1))
    × StandBetween text (word.0 + length word.1) to words

-- they also stand after an earlier place
pub earlier : (text : List ℕ) (low from to : ℕ) (words : List (ℕ × List ℕ)) → low ≤ from → StandBetween text from to words → StandBetween text low to words
earlier text low from to [] le h = omega arith
earlier text low from to (word ∷ words) le h = (omega (arith, h.0), h.1, h.2, h.3)

pub within : (text : List ℕ) (from to : ℕ) (words : List (ℕ × List ℕ)) → StandBetween text from to words → from ≤ to
within text from to [] h = h
within text from to (word ∷ words) h = omega (arith, h.0, within text (word.0 + length word.1) to words h.3)

-- the pieces that a test keeps, of pieces that make up the text from a place on
kept : (p : List ℕ → Bool) (text : List ℕ) (from to : ℕ) (pieces : List (List ℕ)) → AllPieces (λ piece. 0 < length piece) pieces → StandAtOffsets text (with_offsets from pieces) → from + length (concat pieces) ≤ to
    → StandBetween text from to (filter (λ (_, piece). p piece) (with_offsets from pieces))
unfolding with_offsets
kept p text from to [] some stand room = omega arith
kept p text from to (piece ∷ pieces) some stand room =
    let after : from + length piece + length (concat pieces) ≤ to = omega (arith, room, length-append piece (concat pieces)) in
    let rest = kept p text (from + length piece) to pieces some.1 stand.1 after in
    elim (p piece) as (λ b. StandBetween text from to (cond b ((from, piece) ∷ filter (λ (_, piece). p piece) (with_offsets (from + length piece) pieces)) (filter (λ (_, piece). p piece) (with_offsets (from + length piece) pieces)))) [
      | true ↦ (omega arith, some.0, stand.0, rest)
      | false ↦ earlier text from (from + length piece) to _ (omega arith) rest
    ]

pub placed_words_stand : (text : List ℕ) → IsUtf8 text → StandBetween text 0 (length text) (placed_words text)
unfolding placed_words
placed_words_stand text utf8 =
    let whole = ap length (concat-segments is_word_break text utf8) in
    kept has_alphanumeric text 0 (length text) (word_bounds text) (segments_nonempty is_word_break text) (StandAtOffsets-segments is_word_break text utf8) (omega arith)

-- the words without their places
second-filter : (p : List ℕ → Bool) (xs : List (ℕ × List ℕ)) → map (λ (x : ℕ × List ℕ). x.1) (filter (λ (_, piece). p piece) xs) ≡ filter p (map (λ (x : ℕ × List ℕ). x.1) xs)
second-filter p [] = refl
second-filter p (x ∷ xs) =
    let rest = second-filter p xs in
    elim (p x.1) as (λ b. map (λ (y : ℕ × List ℕ). y.1) (cond b (x ∷ filter (λ (_, piece). p piece) xs) (filter (λ (_, piece). p piece) xs)) ≡ cond b (x.1 ∷ filter p (map (λ (y : ℕ × List ℕ). y.1) xs)) (filter p (map (λ (y : ℕ × List ℕ). y.1) xs))) [ true ↦ ap (λ ys. x.1 ∷ ys) rest | false ↦ rest ]

pub second-placed_words : (text : List ℕ) → map (λ (x : ℕ × List ℕ). x.1) (placed_words text) ≡ unfolded_words text
unfolding placed_words
second-placed_words text =
    second-filter has_alphanumeric (with_offsets 0 (word_bounds text)) ∙ ap (filter has_alphanumeric) (map-with_offsets 0 (word_bounds text))

pub few_placed_words : (text : List ℕ) → IsUtf8 text → length (placed_words text) ≤ length text
unfolding placed_words
few_placed_words text utf8 =
    omega (arith, length-filter-le (λ (_, piece). has_alphanumeric piece) (with_offsets 0 (word_bounds text)), length-with_offsets 0 (word_bounds text), length-segments is_word_break text utf8)
