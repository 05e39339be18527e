-- A text has no more words than bytes.
use Rattle.std.proofs.Common.{◌≡◌, ℕ, suc, ◌≤◌, Bool, true, false, if◌then◌else◌, List, [], ◌∷◌, ◌++◌, map, filter, length, sym, arith}
use Rattle.std.proofs.lemmas.List.{length-map}
use Rattle.std.specs.Prelude.{encode_utf8_all}
use Rattle.std.specs.Str.{chars}
use Rattle.unicode_segmentation.specs.Segments.{Rule, cut, has_alphanumeric, prepend, segments}
use Rattle.unicode_segmentation.specs.Word.{is_word_break, word_bounds, words as unfolded_words}
use Rattle.unicode_segmentation.proofs.SegmentsLemmas.{length-filter-le}
use Rattle.analysis.specs.Words.{folded, words}
use Rattle.analysis.proofs.Lengths.{chars_short}

prepend_few : (part : List ℕ) (pieces : List (List ℕ)) (most : ℕ) → length pieces ≤ most → 1 ≤ most → length (prepend part pieces) ≤ most
prepend_few part [] most few some = some
prepend_few part (piece ∷ pieces) most few some = few

one_more : (b : Bool) (c : ℕ) (rest : List (List ℕ)) (most : ℕ) → length rest ≤ most → length (if b then (c ∷ []) ∷ rest else prepend (c ∷ []) rest) ≤ suc most
one_more true c rest most few = omega (arith, few)
one_more false c rest most few = prepend_few (c ∷ []) rest (suc most) (omega (arith, few)) (omega arith)

cut_few : (rule : Rule) (before cs after : List ℕ) → length (cut rule before cs after) ≤ length cs
unfolding cut
cut_few rule before [] after = omega arith
cut_few rule before (c ∷ cs) after = one_more (rule (c ∷ before) (cs ++ after)) c (cut rule (c ∷ before) cs after) (length cs) (cut_few rule (c ∷ before) cs after)

bounds_few : (text : List ℕ) → length (word_bounds text) ≤ length text
unfolding segments
bounds_few text = omega (arith, length-map (cut is_word_break [] (chars text) []) encode_utf8_all, cut_few is_word_break [] (chars text) [], chars_short text)

pub words_fewer : (text : List ℕ) → length (words text) ≤ length text
unfolding words
words_fewer text = omega (arith, length-map (unfolded_words text) folded, length-filter-le has_alphanumeric (word_bounds text), bounds_few text)
