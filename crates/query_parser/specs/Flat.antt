-- Objects in which no object and no list stands: nothing in them has inner hits. It serves proofs; no definition cites it.
use Rattle.std.specs.Prelude.{Bool, true, false, ◌&&◌}
use Rattle.tree_json.specs.Value.{JsonValue, null, bool, whole, text, list, object, Members, no_members, member}

abbrev pub is_single : JsonValue → Bool
is_single null = true
is_single (bool b) = true
is_single (whole z) = true
is_single (text s) = true
is_single (list ds) = false
is_single (object ms) = false

abbrev pub is_flat : Members → Bool
is_flat no_members = true
is_flat (member k d ms) = is_single d && is_flat ms
