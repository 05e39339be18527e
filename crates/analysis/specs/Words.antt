-- The words of a text, in the words of `unicode_segmentation` and `caseless`.
use Rattle.std.specs.Prelude.{ℕ, List, map, chars, encode_utf8_all}
use Rattle.unicode_segmentation.specs.Word.{words as unfolded_words}
use Rattle.caseless.specs.Caseless.{default_case_fold}

-- a word with full case folding (The Unicode Standard, section 3.13: toCasefold), as UTF-8
unfoldable pub folded : List ℕ → List ℕ
folded word = encode_utf8_all (default_case_fold (chars word))

-- The words of a text in order, each folded. Before folding they are what `unicode_segmentation` calls words:
-- the pieces between two word boundaries of UAX #29 that have a letter or a number.
unfoldable pub words : List ℕ → List (List ℕ)
words text = map folded (unfolded_words text)
