-- How deep lists and objects stand in one another.
use Rattle.std.specs.Prelude.{ℕ, suc, max}
use Rattle.tree_json.specs.Value.{JsonValue, null, bool, whole, text, list, object, Elements, no_elements, element, Members, no_members, member}

abbrev mutual
  pub levels : JsonValue → ℕ
  levels null = 0
  levels (bool b) = 0
  levels (whole z) = 0
  levels (text s) = 0
  levels (list ds) = suc (elements_levels ds)
  levels (object ms) = suc (members_levels ms)

  pub elements_levels : Elements → ℕ
  elements_levels no_elements = 0
  elements_levels (element d ds) = max (levels d) (elements_levels ds)

  pub members_levels : Members → ℕ
  members_levels no_members = 0
  members_levels (member k d ms) = max (levels d) (members_levels ms)

-- a value of more levels isn't read
abbrev pub most_levels : ℕ
most_levels = 127
