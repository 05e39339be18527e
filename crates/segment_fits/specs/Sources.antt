-- Sources that are read back: a stored source is the compact text of a JSON object, and is read as that object.
use Rattle.std.specs.Prelude.{◌≡◌, ℕ, true, List}
use Rattle.std.specs.List.{All}
use Rattle.segment_parts.specs.declared.columns.Columns.{Columns}
use Rattle.stored_sources.specs.declared.root.Root.{Root}
use Rattle.tree_json.specs.Reading.{reading, value}
use Rattle.tree_json.specs.Text.{compact}
use Rattle.tree_json.specs.Value.{JsonValue, is_object}

-- the bytes are the compact text of an object
pub record IsObjectText (object : JsonValue) (source : List ℕ) : Type 0 where
  pub is : is_object object ≡ true
  pub text : source ≡ compact object

-- The bytes are the compact text of an object and are read as it. A blank, a name that stands before a lesser one or twice,
-- a fraction, or more levels than are read: each of them is JSON, but none of them is read back.
pub record IsReadBack (source : List ℕ) : Type 0 where
  pub object : JsonValue
  pub is : IsObjectText object source
  pub reads : reading source ≡ value object

-- the sources of all roots, dead ones too
abbrev pub AreReadBack : Columns → Type 0
AreReadBack columns = All (λ (root : Root). IsReadBack root.source) columns.roots
