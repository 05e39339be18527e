-- The pairs that the join fields of a body name (Elasticsearch reference, join field type): a parent with one child.
use Rattle.std.specs.Prelude.{ℕ, Bool, true, false, not, if◌then◌else◌, List, [], ◌∷◌, ◌++◌, find, codes, Option, Some, None, option_map}
use Rattle.std.specs.List.{list_any, flat_map}
use Rattle.std.specs.Str.{bytes_eq}
use Rattle.tree_json.specs.Value.{JsonValue, text, list, object, Elements, no_elements, element, Members, no_members, member}
use Rattle.mapping_body.specs.Body.{properties_of, kind_of, is_join, member_named}

-- a parent's name with one child's
pub record Pair : Type 0 where
  pub parent : List ℕ
  pub child : List ℕ

abbrev pub pair_of_element : List ℕ → JsonValue → List Pair
pair_of_element parent (text child) = record { parent = parent; child = child } ∷ []
pair_of_element parent v = []

abbrev pub pairs_in_list : List ℕ → Elements → List Pair
pairs_in_list parent no_elements = []
pairs_in_list parent (element d ds) = pair_of_element parent d ++ pairs_in_list parent ds

abbrev pub pairs_of_parent : List ℕ → JsonValue → List Pair
pairs_of_parent parent (list ds) = pairs_in_list parent ds
pairs_of_parent parent v = pair_of_element parent v

abbrev pub pairs_in : Members → List Pair
pairs_in no_members = []
pairs_in (member k d ms) = pairs_of_parent k d ++ pairs_in ms

abbrev pub pairs_said : Option JsonValue → List Pair
pairs_said (Some (object ms)) = pairs_in ms
pairs_said v = []

-- the pairs that a join's `relations` name
abbrev pub pairs_of_form : JsonValue → List Pair
pairs_of_form form = pairs_said (member_named form (codes "relations"))

abbrev pub pairs_of_said : JsonValue → List Pair
pairs_of_said form = if is_join (kind_of form) then pairs_of_form form else []

abbrev pub pairs_of : JsonValue → List Pair
pairs_of body = flat_map (λ p. pairs_of_said p.form) (properties_of body)

-- the name that a name has as its parent
abbrev pub parent_among : List Pair → List ℕ → Option (List ℕ)
parent_among pairs name = option_map (λ p. p.parent) (find (λ p. bytes_eq p.child name) pairs)

-- some name stands below two different names
abbrev pub is_other : Option (List ℕ) → List ℕ → Bool
is_other None name = false
is_other (Some other) name = not (bytes_eq other name)

abbrev pub has_two_parents : List Pair → Bool
has_two_parents pairs = list_any (λ p. is_other (parent_among pairs p.child) p.parent) pairs

-- the `relations` of a join have no name in them
abbrev pub lacks_names : Option JsonValue → Bool
lacks_names (Some (object (member k d ms))) = false
lacks_names v = true
