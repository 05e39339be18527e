-- The value that a `Json` holds.
use Rattle.std.specs.Prelude.{ℕ, List as Seq, map}
use Rattle.tree_json.specs.Value.{JsonValue, null, bool, whole, text, list, object, elements_of, members_of}
use Rattle.tree_json.specs.declared.value.Json.{Json}
use Rattle.tree_json.specs.declared.value.Json.TheVariants.{Null, Bool, Whole, Text, List, Object}

abbrev pub view : Json → JsonValue
view Null = null
view (Bool b) = bool b
view (Whole z) = whole z
view (Text s) = text s
view (List ds) = list (elements_of ds)
view (Object ms) = object (members_of ms)

-- the values of a list's vector
abbrev pub values : Seq Json → Seq JsonValue
values js = map view js

-- the pairs of an object's vector
abbrev pub entries : Seq (Seq ℕ × Json) → Seq (Seq ℕ × JsonValue)
entries ms = map (λ m. (m.0, view m.1)) ms
