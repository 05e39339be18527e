-- JSON values as mathematics (RFC 8259), with whole numbers alone and texts as their bytes of UTF-8.
-- Every definition above this crate speaks of these; `View` leads here from the Rust type.
use Rattle.std.specs.Prelude.{ℕ, ◌+◌, ℤ, Bool, true, false, List, [], ◌∷◌, Option, Some, None, if◌then◌else◌}
use Rattle.std.specs.Str.{bytes_eq}

mutual
  pub data JsonValue : Type 0 where
    null : JsonValue
    bool : Bool → JsonValue
    whole : ℤ → JsonValue
    text : List ℕ → JsonValue
    list : Elements → JsonValue
    object : Members → JsonValue

  pub data Elements : Type 0 where
    no_elements : Elements
    element : JsonValue → Elements → Elements

  -- pairs of a name and a value
  pub data Members : Type 0 where
    no_members : Members
    member : List ℕ → JsonValue → Members → Members

abbrev pub elements_of : List JsonValue → Elements
elements_of [] = no_elements
elements_of (d ∷ ds) = element d (elements_of ds)

abbrev pub members_of : List (List ℕ × JsonValue) → Members
members_of [] = no_members
members_of (m ∷ ms) = member m.0 m.1 (members_of ms)

-- the value that stands under a name
abbrev pub member_of : Members → List ℕ → Option JsonValue
member_of no_members name = None
member_of (member k d ms) name = if bytes_eq k name then Some d else member_of ms name

-- how many values, lists and objects there are, an empty list and an empty object of one each: a measure for recursions
abbrev mutual
  pub value_size : JsonValue → ℕ
  value_size null = 1
  value_size (bool b) = 1
  value_size (whole z) = 1
  value_size (text s) = 1
  value_size (list ds) = 1 + elements_size ds
  value_size (object ms) = 1 + members_size ms

  pub elements_size : Elements → ℕ
  elements_size no_elements = 1
  elements_size (element d ds) = value_size d + elements_size ds

  pub members_size : Members → ℕ
  members_size no_members = 1
  members_size (member k d ms) = value_size d + members_size ms

abbrev pub is_object : JsonValue → Bool
is_object null = false
is_object (bool b) = false
is_object (whole z) = false
is_object (text s) = false
is_object (list ds) = false
is_object (object ms) = true
