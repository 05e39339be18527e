-- What is read has few levels.
use Rattle.std.proofs.Common.{◌≡◌, ℕ, ◌≤◌, Bool, true, false, List, Option, Some, None, refl, subst}
use Rattle.std.specs.Prelude.{⊤, if◌then◌else◌}
use Rattle.std.specs.Str.{is_utf8}
use Rattle.serde_json.specs.Data.{Data}
use Rattle.serde_json.specs.Read.{read}
use Rattle.tree_json.specs.Levels.{levels, most_levels}
use Rattle.tree_json.specs.Reading.{Reading, bad_json, fraction, value, whole_value, reading_of_whole, reading_of_data, reading}
use Rattle.tree_json.specs.Value.{JsonValue}
use Rattle.tree_json.proofs.AsData.{levels_read}

abbrev HasFewLevels : Reading → Type 0
HasFewLevels bad_json = ⊤
HasFewLevels fraction = ⊤
HasFewLevels (value v) = levels v ≤ most_levels

whole_has : (bytes : List ℕ) (d : Data) (v : Option JsonValue) → read bytes ≡ Some d → whole_value d ≡ v → HasFewLevels (reading_of_whole v)
whole_has bytes d None parses whole = tt
whole_has bytes d (Some v) parses whole = levels_read bytes v (record { says = d; parses = parses; whole = whole })

data_has : (bytes : List ℕ) (d : Option Data) → read bytes ≡ d → HasFewLevels (reading_of_data d)
data_has bytes None parses = tt
data_has bytes (Some d) parses = whole_has bytes d (whole_value d) parses refl

text_has : (bytes : List ℕ) (b : Bool) → HasFewLevels (if b then reading_of_data (read bytes) else bad_json)
text_has bytes true = data_has bytes (read bytes) refl
text_has bytes false = tt

reading_has : (bytes : List ℕ) → HasFewLevels (reading bytes)
unfolding reading
reading_has bytes = text_has bytes (is_utf8 bytes)

pub few_levels : (bytes : List ℕ) (v : JsonValue) → reading bytes ≡ value v → levels v ≤ most_levels
few_levels bytes v e = subst HasFewLevels e (reading_has bytes)
