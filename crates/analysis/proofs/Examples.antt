-- The definitions computed at texts, so that a wrong one doesn't check.
use Rattle.std.proofs.Common.{◌≡◌, [], ◌∷◌, refl}
use Rattle.std.specs.Prelude.{codes, encode_utf8_all}
use Rattle.unicode_segmentation.proofs.Computing.{unicode_segmentation}
use Rattle.caseless.proofs.Computing.{caseless}
use Rattle.analysis.specs.Words.{folded, words}

words_folded : words (codes "The Oak CHAIR") ≡ codes "the" ∷ codes "oak" ∷ codes "chair" ∷ []
unfolding words folded unicode_segmentation caseless
words_folded = refl

-- `Straße`
sharp_s : words (encode_utf8_all (0x53 ∷ 0x74 ∷ 0x72 ∷ 0x61 ∷ 0xDF ∷ 0x65 ∷ [])) ≡ codes "strasse" ∷ []
unfolding words folded unicode_segmentation caseless
sharp_s = refl
