-- Values that are read back from their texts.
use Rattle.std.specs.Prelude.{◌≡◌}
use Rattle.tree_json.specs.Reading.{reading, value}
use Rattle.tree_json.specs.Text.{compact}
use Rattle.tree_json.specs.Value.{JsonValue}

-- a value is what is read of its compact text
abbrev pub IsReadBack : JsonValue → Type 0
IsReadBack v = reading (compact v) ≡ value v
