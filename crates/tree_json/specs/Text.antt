-- The compact text of a value (RFC 8259 without blanks), letter for letter as `serde_json` writes it.
use Rattle.std.specs.Prelude.{ℕ, List, ◌++◌, Bool, true, false, if◌then◌else◌, codes, []}
use Rattle.std.specs.Fmt.{signed_decimal}
use Rattle.json.specs.Print.{escape}
use Rattle.tree_json.specs.Value.{JsonValue, null, bool, whole, text, list, object, Elements, no_elements, element, Members, no_members, member}

-- a text between quotation marks: `"` and `\` behind a `\`, the control characters by their short escapes
-- (`\b \t \n \f \r`) or as `\u00` and two digits, and every other byte as it is (RFC 8259, section 7)
unfoldable pub quoted : List ℕ → List ℕ
quoted s = codes "\"" ++ (escape s ++ codes "\"")

abbrev pub comma_if : Bool → List ℕ
comma_if later = if later then codes "," else []

abbrev pub bool_text : Bool → List ℕ
bool_text b = if b then codes "true" else codes "false"

-- the text of a value, of the elements of a list and of the members of an object; `later` says that something
-- stands before in the same list or object
abbrev mutual
  pub compact : JsonValue → List ℕ
  compact null = codes "null"
  compact (bool b) = bool_text b
  compact (whole z) = signed_decimal z
  compact (text s) = quoted s
  compact (list ds) = codes "[" ++ (compact_elements false ds ++ codes "]")
  compact (object ms) = codes "{" ++ (compact_members false ms ++ codes "}")

  pub compact_elements : Bool → Elements → List ℕ
  compact_elements later no_elements = []
  compact_elements later (element d ds) = comma_if later ++ (compact d ++ compact_elements true ds)

  pub compact_members : Bool → Members → List ℕ
  compact_members later no_members = []
  compact_members later (member k d ms) = comma_if later ++ ((quoted k ++ (codes ":" ++ compact d)) ++ compact_members true ms)

-- a name with its value
abbrev pub compact_member : List ℕ → JsonValue → List ℕ
compact_member k d = quoted k ++ (codes ":" ++ compact d)
