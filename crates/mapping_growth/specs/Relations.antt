-- The relations of a join field (Elasticsearch reference, join field type): names, each with the name of its parent.
use Rattle.std.specs.Prelude.{◌≡◌, ℕ, zero, suc, ◌+◌, Bool, not, List, [], ◌∷◌, ◌++◌, length, map, filter, Option, Some, None, is_some, option_and_then, slice_get}
use Rattle.std.specs.List.{list_any, flat_map}
use Rattle.tree_json.specs.Value.{JsonValue}
use Rattle.mapping_body.specs.Names.{in_byte_order, place_of, is_among}
use Rattle.mapping_body.specs.Pairs.{Pair, pairs_of, parent_among}

-- a relation: its name, the number of its parent, and the mapping generation that added it
pub record Relation : Type 0 where
  pub name : List ℕ
  pub parent : Option ℕ
  pub since : ℕ

abbrev pub relation_names : List Relation → List (List ℕ)
relation_names rs = map (λ r. r.name) rs

abbrev pub names_in_pairs : List Pair → List (List ℕ)
names_in_pairs pairs = flat_map (λ p. p.parent ∷ p.child ∷ []) pairs

-- the names that pairs have and that aren't known yet, in byte order
abbrev pub names_added : List (List ℕ) → List Pair → List (List ℕ)
names_added known pairs = filter (λ name. not (is_among known name)) (in_byte_order (λ name. name) (names_in_pairs pairs))

abbrev pub relation_by : ℕ → List Pair → List (List ℕ) → List ℕ → Relation
relation_by g pairs names name = record {
  name = name;
  parent = option_and_then (λ parent. place_of parent names) (parent_among pairs name);
  since = g;
}

-- the relations that a body adds; its own pairs say the parent of each
abbrev pub relations_added : ℕ → List Relation → List Pair → List Relation
relations_added g known pairs =
    map (relation_by g pairs (relation_names known ++ names_added (relation_names known) pairs))
    (names_added (relation_names known) pairs)

abbrev pub relations_from : ℕ → List Relation → List JsonValue → List Relation
relations_from g known [] = known
relations_from g known (body ∷ bodies) = relations_from (g + 1) (known ++ relations_added g known (pairs_of body)) bodies

-- the relations of bodies: names are numbered in order of the bodies that add them and, within one body, in byte order
unfoldable pub relations_of : List JsonValue → List Relation
relations_of bodies = relations_from 1 [] bodies

-- ---- ancestors

-- the parent of a relation
abbrev pub parent_of : List Relation → Option ℕ → Option ℕ
parent_of rs at = option_and_then (λ r. r.parent) (option_and_then (slice_get rs) at)

-- a relation stands so many parents above another, one at least
pub data IsAncestor (rs : List Relation) : ℕ → ℕ → Type 0 where
  parent : (above at : ℕ) → parent_of rs (Some at) ≡ Some above → IsAncestor rs above at
  further : (above between at : ℕ) → IsAncestor rs above between → parent_of rs (Some at) ≡ Some between → IsAncestor rs above at

-- ---- proofs alone: a line of parents, counted

-- the relation so many parents up
abbrev pub climbed : ℕ → List Relation → Option ℕ → Option ℕ
climbed zero rs at = at
climbed (suc steps) rs at = climbed steps rs (parent_of rs at)

-- a line of parents longer than there are names comes back to a name of its own: that name is its own ancestor
abbrev pub turns_back : List Relation → Bool
turns_back rs = list_any (λ r. is_some (climbed (length rs) rs r.parent)) rs
