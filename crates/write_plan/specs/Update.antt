-- What an update makes of a live source.
use Rattle.std.specs.Prelude.{◌≡◌, ℕ, Bool, true, false, List, Option, Some, None}
use Rattle.tree_json.specs.Reading.{reading, value}
use Rattle.tree_json.specs.Text.{compact}
use Rattle.tree_json.specs.Value.{JsonValue}
use Rattle.tree_json.specs.View.{view}
use Rattle.tree_json.specs.declared.value.Json.{Json}
use Rattle.json_merge.specs.Merged.{merged}
use Rattle.json_merge.specs.Same.{is_same}

-- the bytes are the compact text of a value, and are read as it
pub record IsTextOf (bytes : List ℕ) (v : JsonValue) : Type 0 where
  pub text : bytes ≡ compact v
  pub reads : reading bytes ≡ value v

-- the merged source, or none where it is the same as the live one
abbrev pub IsUpdated : JsonValue → JsonValue → Option Json → Type 0
IsUpdated doc live None = is_same (merged doc live) live ≡ true
IsUpdated doc live (Some source) = (is_same (merged doc live) live ≡ false) × (view source ≡ merged doc live)
