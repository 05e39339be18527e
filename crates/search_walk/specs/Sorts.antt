-- What a sort clause says: the name of its field, or `_score`, and the parts beside it.
use Rattle.std.specs.Prelude.{ℕ, Bool, ◌||◌, if◌then◌else◌, List, [], ◌∷◌, codes, Option, Some, None}
use Rattle.std.specs.List.{list_any}
use Rattle.std.specs.Str.{bytes_eq}
use Rattle.tree_json.specs.Value.{JsonValue, text, object, member_of}
use Rattle.search_form.specs.declared.form.Form.{Form}
use Rattle.search_form.specs.declared.form.Form.TheVariants.{SortClause}
use Rattle.search_form.specs.Form.{chosen}

abbrev pub name_if : Option (List ℕ × Form × JsonValue) → List ℕ
name_if None = []
name_if (Some c) = c.0

-- `"price"`, or the one name of an object
abbrev pub sort_name : JsonValue → List ℕ
sort_name (text name) = name
sort_name (object ms) = name_if (chosen SortClause ms)
sort_name v = []

abbrev pub part_of : JsonValue → List ℕ → Option JsonValue
part_of (object ms) name = member_of ms name
part_of v name = None

abbrev pub part_if : Option (List ℕ × Form × JsonValue) → List ℕ → Option JsonValue
part_if None name = None
part_if (Some c) name = part_of c.2 name

-- what stands under a name in a clause that is an object with an object
abbrev pub sort_part : JsonValue → List ℕ → Option JsonValue
sort_part (object ms) name = part_if (chosen SortClause ms) name
sort_part v name = None

abbrev pub is_score : List ℕ → Bool
is_score name = bytes_eq name (codes "_score")

abbrev pub is_place_word : List ℕ → Bool
is_place_word word = bytes_eq word (codes "_last") || bytes_eq word (codes "_first")

-- the value that stands in for missing ones, if `missing` gives one; on each kind the two words are words
abbrev pub given : Option JsonValue → Option JsonValue
given None = None
given (Some (text s)) = if is_place_word s then None else Some (text s)
given (Some v) = Some v

abbrev pub given_missing : JsonValue → Option JsonValue
given_missing clause = given (sort_part clause (codes "missing"))

-- the modes that add values up, or take the mean of two
abbrev pub is_summing : List ℕ → Bool
is_summing mode = list_any (bytes_eq mode) (codes "sum" ∷ codes "avg" ∷ codes "median" ∷ [])
