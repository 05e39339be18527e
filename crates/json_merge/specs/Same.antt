-- Whether two values are the same.
use Rattle.std.specs.Prelude.{ℕ, ℤ, Bool, true, false, not, ◌&&◌, if◌then◌else◌, List}
use Rattle.std.specs.Ordering.{int_eq}
use Rattle.std.specs.Str.{bytes_eq}
use Rattle.tree_json.specs.Value.{JsonValue, null, bool, whole, text, list, object, Elements, no_elements, element, Members, no_members, member}

abbrev pub is_null : JsonValue → Bool
is_null null = true
is_null (bool b) = false
is_null (whole z) = false
is_null (text s) = false
is_null (list ds) = false
is_null (object ms) = false

abbrev pub is_bool : Bool → JsonValue → Bool
is_bool b null = false
is_bool b (bool c) = if b then c else not c
is_bool b (whole z) = false
is_bool b (text s) = false
is_bool b (list ds) = false
is_bool b (object ms) = false

abbrev pub is_whole : ℤ → JsonValue → Bool
is_whole z null = false
is_whole z (bool b) = false
is_whole z (whole y) = int_eq z y
is_whole z (text s) = false
is_whole z (list ds) = false
is_whole z (object ms) = false

abbrev pub is_text : List ℕ → JsonValue → Bool
is_text s null = false
is_text s (bool b) = false
is_text s (whole z) = false
is_text s (text t) = bytes_eq s t
is_text s (list ds) = false
is_text s (object ms) = false

abbrev pub is_list : (Elements → Bool) → JsonValue → Bool
is_list test null = false
is_list test (bool b) = false
is_list test (whole z) = false
is_list test (text s) = false
is_list test (list ds) = test ds
is_list test (object ms) = false

abbrev pub is_object_of : (Members → Bool) → JsonValue → Bool
is_object_of test null = false
is_object_of test (bool b) = false
is_object_of test (whole z) = false
is_object_of test (text s) = false
is_object_of test (list ds) = false
is_object_of test (object ms) = test ms

abbrev pub are_no_elements : Elements → Bool
are_no_elements no_elements = true
are_no_elements (element d ds) = false

abbrev pub are_elements : (JsonValue → Bool) → (Elements → Bool) → Elements → Bool
are_elements first rest no_elements = false
are_elements first rest (element d ds) = first d && rest ds

abbrev pub are_no_members : Members → Bool
are_no_members no_members = true
are_no_members (member k d ms) = false

abbrev pub are_members : List ℕ → (JsonValue → Bool) → (Members → Bool) → Members → Bool
are_members name first rest no_members = false
are_members name first rest (member k d ms) = bytes_eq name k && (first d && rest ms)

-- it is so exactly where they are equal
abbrev mutual
  pub is_same : JsonValue → JsonValue → Bool
  is_same null v = is_null v
  is_same (bool b) v = is_bool b v
  is_same (whole z) v = is_whole z v
  is_same (text s) v = is_text s v
  is_same (list ds) v = is_list (is_same_list ds) v
  is_same (object ms) v = is_object_of (is_same_object ms) v

  pub is_same_list : Elements → Elements → Bool
  is_same_list no_elements es = are_no_elements es
  is_same_list (element d ds) es = are_elements (is_same d) (is_same_list ds) es

  pub is_same_object : Members → Members → Bool
  is_same_object no_members ms = are_no_members ms
  is_same_object (member k d ms) ns = are_members k (is_same d) (is_same_object ms) ns
