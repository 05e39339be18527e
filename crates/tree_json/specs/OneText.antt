-- A text under a name, in the one object under another name.
use Rattle.std.specs.Prelude.{ℕ, List}
use Rattle.tree_json.specs.Value.{JsonValue, text, object, no_members, member}

abbrev pub one_text : List ℕ → List ℕ → List ℕ → JsonValue
one_text outer inner within = object (member outer (object (member inner (text within) no_members)) no_members)
