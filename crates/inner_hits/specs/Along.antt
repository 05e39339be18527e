-- Serves proofs: the objects that a value has along names, and one of them that is found by counting.
use Rattle.std.specs.Prelude.{◌≡◌, ℕ, ◌+◌, List, length, filter, slice_get, Option, Some, None}
use Rattle.tree_json.specs.Value.{Elements, JsonValue, is_object}
use Rattle.tree_objects.specs.Object.{items, items_in}

abbrev pub objects_along : JsonValue → List (List ℕ) → List JsonValue
objects_along v names = filter is_object (items v names)

abbrev pub objects_in : Elements → List (List ℕ) → List JsonValue
objects_in elements names = filter is_object (items_in elements names)

-- what is found has the number that was left, and where nothing is found all objects were counted off
abbrev pub IsCounted : List JsonValue → ℕ → ℕ → Option JsonValue → Type 0
IsCounted objects old new (Some v) = slice_get objects old ≡ Some v
IsCounted objects old new None = old ≡ length objects + new
