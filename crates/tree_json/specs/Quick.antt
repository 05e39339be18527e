-- What the quick reader has found at its place in the text, in the words of `json`'s grammar and of `serde_json`'s data.
use Rattle.std.specs.Prelude.{◌≡◌, ℕ, ℤ, List, Option, Some, None, option_and_then}
use Rattle.json.specs.Json as json
use Rattle.json.specs.Token.{Token}
use Rattle.serde_json.specs.Data as source
use Rattle.serde_json.specs.Find.{as_i64}
use Rattle.serde_json.specs.Read.{of_json, of_items, of_members}
use Rattle.tree_json.specs.Value.{JsonValue, Elements, Members, elements_of, members_of}
use Rattle.tree_json.specs.Reading.{whole_value, whole_elements, whole_members}

-- the value of what the grammar found
abbrev pub whole_json : json.Json → Option JsonValue
whole_json j = option_and_then whole_value (of_json j)

abbrev pub whole_items : json.Items → Option Elements
whole_items js = option_and_then whole_elements (of_items js)

abbrev pub whole_pairs : json.Members → Option Members
whole_pairs ms = option_and_then whole_members (of_members ms source.no_members)

-- the grammar finds this value, and these tokens follow
pub record Says (found : Option (json.Json × List Token)) (v : JsonValue) (rest : List Token) : Type 0 where
  pub says : json.Json
  pub parses : found ≡ Some (says, rest)
  pub whole : whole_json says ≡ Some v

pub record SaysElements (found : Option (json.Items × List Token)) (ds : List JsonValue) (rest : List Token) : Type 0 where
  pub says : json.Items
  pub parses : found ≡ Some (says, rest)
  pub whole : whole_items says ≡ Some (elements_of ds)

pub record SaysMembers (found : Option (json.Members × List Token)) (ms : List (List ℕ × JsonValue)) (rest : List Token) : Type 0 where
  pub says : json.Members
  pub parses : found ≡ Some (says, rest)
  pub whole : whole_pairs says ≡ Some (members_of ms)

-- the number is there, and it is the whole one z
pub record IsWhole (found : Option source.Num) (z : ℤ) : Type 0 where
  pub number : source.Num
  pub parses : found ≡ Some number
  pub whole : as_i64 number ≡ Some z

-- the text is data of this value
pub record SaysText (found : Option source.Data) (v : JsonValue) : Type 0 where
  pub says : source.Data
  pub parses : found ≡ Some says
  pub whole : whole_value says ≡ Some v

-- the text is data with a number that isn't whole
pub record IsFraction (found : Option source.Data) : Type 0 where
  pub says : source.Data
  pub parses : found ≡ Some says
  pub none : whole_value says ≡ None
