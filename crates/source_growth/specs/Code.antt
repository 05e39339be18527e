-- A code for members, by which a proof tells two lists of them apart.
use Rattle.std.specs.Prelude.{refl}
use Rattle.std.specs.Coded.{Coded, code_by}
use Rattle.tree_json.specs.Code.{value_code}
use Rattle.tree_json.specs.Value.{JsonValue, null, bool, whole, text, list, object, Members, no_members}

abbrev members_in : JsonValue → Members
members_in null = no_members
members_in (bool b) = no_members
members_in (whole z) = no_members
members_in (text s) = no_members
members_in (list ds) = no_members
members_in (object ms) = ms

abbrev pub members_code : Coded Members
members_code = code_by JsonValue value_code (λ ms. object ms) members_in (λ _. refl)
