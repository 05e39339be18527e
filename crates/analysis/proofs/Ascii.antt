-- Words of ASCII alone: full case folding is lower case.
use Rattle.std.proofs.Common.{◌≡◌, ℕ, ◌<◌, List, map, IsAscii, encode_utf8_all, ap, ◌∙◌, arith}
use Rattle.std.proofs.lemmas.Bool.Decides.{nat_tests}
use Rattle.std.proofs.lemmas.Str.{chars-IsAscii, encodes-IsAscii}
use Rattle.std.proofs.lemmas.Str.Ascii.{All-from_ascii, IsAscii-map}
use Rattle.std.specs.Char.{to_ascii_lowercase}
use Rattle.caseless.specs.Caseless.{default_case_fold}
use Rattle.caseless.proofs.CaselessLemmas.{default_case_fold-ascii}
use Rattle.analysis.specs.Words.{folded}

lower_ascii : (c : ℕ) → c < 128 → to_ascii_lowercase c < 128
lower_ascii c h = grind (arith, nat_tests)

pub folded_lower : (word : List ℕ) → IsAscii word → folded word ≡ map to_ascii_lowercase word
unfolding folded
folded_lower word ascii =
    ap (λ cs. encode_utf8_all (default_case_fold cs)) (chars-IsAscii word ascii)
    ∙ ap encode_utf8_all (default_case_fold-ascii word (All-from_ascii word ascii))
    ∙ encodes-IsAscii (map to_ascii_lowercase word) (IsAscii-map to_ascii_lowercase word lower_ascii ascii)

pub ruleset ascii = (folded_lower)
