-- What a line of bytes says: `serde_json`'s value, which is RFC 8259 up to 127 levels, with whole numbers alone.
use Rattle.std.specs.Prelude.{ℕ, List, Option, Some, None, option_map, option_and_then, if◌then◌else◌}
use Rattle.std.specs.Str.{is_utf8}
use Rattle.serde_json.specs.Data as source
use Rattle.serde_json.specs.Read.{read}
use Rattle.serde_json.specs.Find.{as_i64}
use Rattle.tree_json.specs.Value.{JsonValue, null, bool, whole, text, list, object, Elements, no_elements, element, Members, no_members, member}

pub data Reading : Type 0 where
  bad_json : Reading
  fraction : Reading
  value : JsonValue → Reading

-- the value with its numbers as whole ones, and None where one of them isn't an integer of 64 bits
abbrev mutual
  pub whole_value : source.Data → Option JsonValue
  whole_value source.null = Some null
  whole_value (source.boolean b) = Some (bool b)
  whole_value (source.number n) = option_map whole (as_i64 n)
  whole_value (source.string s) = Some (text s)
  whole_value (source.array ds) = option_map list (whole_elements ds)
  whole_value (source.object ms) = option_map object (whole_members ms)

  pub whole_elements : source.Items → Option Elements
  whole_elements source.no_items = Some no_elements
  whole_elements (source.item d ds) = option_and_then (λ e. option_map (element e) (whole_elements ds)) (whole_value d)

  pub whole_members : source.Members → Option Members
  whole_members source.no_members = Some no_members
  whole_members (source.member k d ms) = option_and_then (λ e. option_map (member k e) (whole_members ms)) (whole_value d)

abbrev pub reading_of_whole : Option JsonValue → Reading
reading_of_whole None = fraction
reading_of_whole (Some v) = value v

abbrev pub reading_of_data : Option source.Data → Reading
reading_of_data None = bad_json
reading_of_data (Some d) = reading_of_whole (whole_value d)

-- Bytes that aren't UTF-8, a text that is no JSON, more than 127 levels and a number beyond a float's range are bad.
-- A repeated name keeps its last value, so a fraction under an earlier one counts for nothing.
unfoldable pub reading : List ℕ → Reading
reading bytes = if is_utf8 bytes then reading_of_data (read bytes) else bad_json
