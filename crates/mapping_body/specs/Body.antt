-- The body of a mapping: its form, and the properties that it has (Elasticsearch reference, mapping: properties).
use Rattle.std.specs.Prelude.{ℕ, Bool, true, false, ◌&&◌, ◌||◌, if◌then◌else◌, nat_lt, List, [], ◌∷◌, ◌++◌, length, codes, find, Option, Some, None, is_some, option_map, unwrap_or}
use Rattle.std.specs.List.{list_all, list_any}
use Rattle.std.specs.Str.{bytes_eq}
use Rattle.tree_json.specs.Value.{JsonValue, bool, text, list, object, Elements, no_elements, element, Members, no_members, member, member_of}
use Rattle.mapping_body.specs.declared.kind.Kind.{Kind}
use Rattle.mapping_body.specs.declared.kind.Kind.TheVariants.{Text, Keyword, Long, Boolean, Date, Object, Nested, Join}
use Rattle.mapping_body.specs.Names.{is_name, is_property_name, joined}

abbrev pub is_flag : JsonValue → Bool
is_flag (bool b) = true
is_flag v = false

abbrev pub has : Members → List ℕ → Bool
has ms name = is_some (member_of ms name)

-- every element, and every member, passes a test
abbrev pub each_element : (JsonValue → Bool) → Elements → Bool
each_element test no_elements = true
each_element test (element d ds) = test d && each_element test ds

abbrev pub each_member : (List ℕ → JsonValue → Bool) → Members → Bool
each_member test no_members = true
each_member test (member k d ms) = test k d && each_member test ms

-- a table of the names that a form takes, each with the test of its value
abbrev pub Taken : Type 0
Taken = List (List ℕ × (JsonValue → Bool))

-- each member has a name of the table and passes its test
abbrev pub are_taken : Taken → Members → Bool
are_taken table ms = each_member (λ name value. list_any (λ t. bytes_eq name t.0 && t.1 value) table) ms

-- ---- the form of a property

-- the kinds by their names; the narrower whole numbers are read as `long`, without their ranges
abbrev pub kind_names : List (List ℕ × Kind)
kind_names =
    (codes "text", Text) ∷ (codes "keyword", Keyword) ∷ (codes "boolean", Boolean) ∷ (codes "date", Date)
    ∷ (codes "long", Long) ∷ (codes "integer", Long) ∷ (codes "short", Long) ∷ (codes "byte", Long)
    ∷ (codes "object", Object) ∷ (codes "nested", Nested) ∷ (codes "join", Join) ∷ []

abbrev pub kind_named : List ℕ → Option Kind
kind_named word = option_map (λ t. t.1) (find (λ t. bytes_eq word t.0) kind_names)

-- a property without a type is a plain object
abbrev pub kind_typed : Option JsonValue → Option Kind
kind_typed None = Some Object
kind_typed (Some (text word)) = kind_named word
kind_typed (Some v) = None

abbrev pub kind_in : Members → Option Kind
kind_in ms = kind_typed (member_of ms (codes "type"))

-- the child names that stand beside a parent's name: one name, or a list of some
abbrev pub is_child : JsonValue → Bool
is_child (text name) = is_name name
is_child v = false

abbrev pub are_children : JsonValue → Bool
are_children (text name) = is_name name
are_children (list no_elements) = false
are_children (list (element d ds)) = each_element is_child (element d ds)
are_children v = false

abbrev pub are_relations : JsonValue → Bool
are_relations (object ms) = each_member (λ name children. is_name name && are_children children) ms
are_relations v = false

-- `properties` is an object whose names are names of properties
abbrev pub are_property_names : Members → Bool
are_property_names ms = each_member (λ name _. is_property_name name) ms

abbrev pub are_properties : JsonValue → Bool
are_properties (object ms) = are_property_names ms
are_properties v = false

-- what a property of a kind may have besides its type
abbrev pub property_takes : Kind → Taken
property_takes Object = (codes "properties", are_properties) ∷ []
property_takes Nested =
    (codes "properties", are_properties) ∷ (codes "include_in_parent", is_flag) ∷ (codes "include_in_root", is_flag) ∷ []
property_takes Join = (codes "relations", are_relations) ∷ []
property_takes Text = []
property_takes Keyword = []
property_takes Long = []
property_takes Boolean = []
property_takes Date = []

abbrev pub takes_type : Taken → Taken
takes_type table = (codes "type", λ _. true) ∷ table

-- what it must have: a join its relations, and a plain object its type or its properties
abbrev pub has_needed : Kind → Members → Bool
has_needed Object ms = has ms (codes "type") || has ms (codes "properties")
has_needed Join ms = has ms (codes "relations")
has_needed Text ms = true
has_needed Keyword ms = true
has_needed Long ms = true
has_needed Boolean ms = true
has_needed Date ms = true
has_needed Nested ms = true

abbrev pub suits_kind : Option Kind → Members → Bool
suits_kind None ms = false
suits_kind (Some kind) ms = are_taken (takes_type (property_takes kind)) ms && has_needed kind ms

abbrev pub is_property : JsonValue → Bool
is_property (object ms) = suits_kind (kind_in ms) ms
is_property v = false

-- ---- the properties of a body

-- a property: its path from the top, and what the body says of it
pub record Property : Type 0 where
  pub path : List ℕ
  pub form : JsonValue

-- the properties below a path in a body or a property, depth first and in byte order of names
abbrev mutual
  pub properties_below : List ℕ → JsonValue → List Property
  properties_below path (object ms) = properties_among path ms
  properties_below path v = []

  pub properties_among : List ℕ → Members → List Property
  properties_among path no_members = []
  properties_among path (member k d ms) =
      if bytes_eq k (codes "properties") then properties_at path d else properties_among path ms

  pub properties_at : List ℕ → JsonValue → List Property
  properties_at path (object ms) = properties_named path ms
  properties_at path v = []

  pub properties_named : List ℕ → Members → List Property
  properties_named path no_members = []
  properties_named path (member k d ms) =
      record { path = joined path k; form = d } ∷ (properties_below (joined path k) d ++ properties_named path ms)

abbrev pub properties_of : JsonValue → List Property
properties_of body = properties_below [] body

-- ---- the form of a body

-- the index's name isn't empty
abbrev pub is_index_name : JsonValue → Bool
is_index_name (text name) = nat_lt 0 (length name)
is_index_name v = false

abbrev pub body_takes : Taken
body_takes = (codes "properties", are_properties) ∷ (codes "index", is_index_name) ∷ (codes "dynamic", is_flag) ∷ []

abbrev pub is_body_alone : JsonValue → Bool
is_body_alone (object ms) = are_taken body_takes ms && has ms (codes "properties")
is_body_alone v = false

-- the body has the form of a mapping, and so has each of its properties
abbrev pub is_body : JsonValue → Bool
is_body body = is_body_alone body && list_all (λ p. is_property p.form) (properties_of body)

-- ---- what a property says

abbrev pub member_named : JsonValue → List ℕ → Option JsonValue
member_named (object ms) name = member_of ms name
member_named v name = None

abbrev pub kind_said : JsonValue → Option Kind
kind_said (object ms) = kind_in ms
kind_said v = None

abbrev pub kind_of : JsonValue → Kind
kind_of form = unwrap_or (kind_said form) Object

abbrev pub is_true : Option JsonValue → Bool
is_true (Some (bool b)) = b
is_true v = false

abbrev pub is_nested : Kind → Bool
is_nested Nested = true
is_nested kind = false

abbrev pub is_join : Kind → Bool
is_join Join = true
is_join kind = false

-- the name of the index, by default `main`
abbrev pub name_given : Option JsonValue → List ℕ
name_given (Some (text name)) = name
name_given v = codes "main"

abbrev pub index_of : JsonValue → List ℕ
index_of body = name_given (member_named body (codes "index"))
