-- What bytes say, from what `serde_json` answers.
use Rattle.std.proofs.Common.{◌≡◌, ℕ, List, Bool, true, false, None, refl}
use Rattle.std.proofs.lemmas.Str.{IsUtf8-from_is_utf8, is_utf8-from_IsUtf8}
use Rattle.std.specs.Str.{IsUtf8, is_utf8}
use Rattle.serde_json.specs.Read.{read}
use Rattle.tree_json.specs.Quick.{SaysText, IsFraction}
use Rattle.tree_json.specs.Reading.{bad_json, fraction, value, reading}
use Rattle.tree_json.specs.Value.{JsonValue}

pub reading_value : (bytes : List ℕ) (v : JsonValue) → IsUtf8 bytes → SaysText (read bytes) v → reading bytes ≡ value v
unfolding reading
reading_value bytes v utf8 found = rw (is_utf8-from_IsUtf8 bytes utf8, found.parses, found.whole) refl

pub reading_fraction : (bytes : List ℕ) → IsUtf8 bytes → IsFraction (read bytes) → reading bytes ≡ fraction
unfolding reading
reading_fraction bytes utf8 found = rw (is_utf8-from_IsUtf8 bytes utf8, found.parses, found.none) refl

pub reading_bad : (bytes : List ℕ) → IsUtf8 bytes → read bytes ≡ None → reading bytes ≡ bad_json
unfolding reading
reading_bad bytes utf8 none = rw (is_utf8-from_IsUtf8 bytes utf8, none) refl

pub reading_no_text : (bytes : List ℕ) → ¬ (IsUtf8 bytes) → reading bytes ≡ bad_json
unfolding reading
reading_no_text bytes other = by_test (is_utf8 bytes) refl
  where
    by_test : (b : Bool) → is_utf8 bytes ≡ b → reading bytes ≡ bad_json
    by_test true e = absurd (other (IsUtf8-from_is_utf8 bytes e))
    by_test false e = rw e refl

pub ruleset readings = (reading_value, reading_fraction, reading_bad, reading_no_text)
