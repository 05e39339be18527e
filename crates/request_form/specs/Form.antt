-- When an object has the names of a table.
use Rattle.std.specs.Prelude.{ℕ, Bool, true, false, not, ◌&&◌, ◌||◌, if◌then◌else◌, List, [], ◌∷◌, Option, Some, None, is_some}
use Rattle.std.specs.List.{list_all}
use Rattle.std.specs.Str.{bytes_eq}
use Rattle.tree_json.specs.Value.{JsonValue, null, bool, whole, text, list, object, Members, no_members, member, member_of}
use Rattle.request_form.specs.declared.form.Form.{Form}
use Rattle.request_form.specs.declared.form.Presence.{Presence}
use Rattle.request_form.specs.declared.form.Presence.TheVariants.{Required, Optional}
use Rattle.request_form.specs.Table.{takes}

abbrev pub is_required : Presence → Bool
is_required Required = true
is_required Optional = false

-- a table has the name, and the value there has the form that it asks for
abbrev pub is_taken : List (List ℕ × Presence × Form) → List ℕ → JsonValue → Bool
is_taken [] name value = false
is_taken (l ∷ lines) name value = if bytes_eq name l.0 then takes l.2 value else is_taken lines name value

abbrev pub are_taken : List (List ℕ × Presence × Form) → Members → Bool
are_taken lines no_members = true
are_taken lines (member k d ms) = is_taken lines k d && are_taken lines ms

-- the names that have to be there are there
abbrev pub has_required : List (List ℕ × Presence × Form) → Members → Bool
has_required lines ms = list_all (λ l. not (is_required l.1) || is_some (member_of ms l.0)) lines

-- an object has names of a table alone, each with a value of its form, and those that have to be there
abbrev pub has_lines : List (List ℕ × Presence × Form) → Members → Bool
has_lines lines ms = has_required lines ms && are_taken lines ms

-- the member of an object that has just one
abbrev pub single_of : Members → Option (List ℕ × JsonValue)
single_of no_members = None
single_of (member name only no_members) = Some (name, only)
single_of (member name first (member other second rest)) = None

-- the members of an object
abbrev pub members_in : JsonValue → Option Members
members_in null = None
members_in (bool b) = None
members_in (whole z) = None
members_in (text s) = None
members_in (list ds) = None
members_in (object ms) = Some ms
