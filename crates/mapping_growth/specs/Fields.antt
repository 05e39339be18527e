-- What bodies say together of fields, each numbered in order of the bodies that add them.
use Rattle.std.specs.Prelude.{ℕ, ◌+◌, Bool, not, List, [], ◌∷◌, ◌++◌, map, filter, codes, Option}
use Rattle.tree_json.specs.Value.{JsonValue}
use Rattle.mapping_body.specs.declared.kind.Kind.{Kind}
use Rattle.mapping_body.specs.Names.{in_byte_order, place_of, is_among}
use Rattle.mapping_body.specs.Body.{Property, properties_of, kind_of, is_true, member_named}

-- a field as the body that adds it says it: its path, its kind, its flags, and the mapping generation, which is the
-- number of that body, from 1
pub record Draft : Type 0 where
  pub path : List ℕ
  pub kind : Kind
  pub in_parent : Bool
  pub in_root : Bool
  pub since : ℕ

abbrev pub draft_of : ℕ → Property → Draft
draft_of g p = record {
  path = p.path;
  kind = kind_of p.form;
  in_parent = is_true (member_named p.form (codes "include_in_parent"));
  in_root = is_true (member_named p.form (codes "include_in_root"));
  since = g;
}

abbrev pub draft_paths : List Draft → List (List ℕ)
draft_paths ds = map (λ d. d.path) ds

-- the properties of a body whose paths aren't known
abbrev pub properties_added : List (List ℕ) → JsonValue → List Property
properties_added known body = filter (λ p. not (is_among known p.path)) (properties_of body)

-- the fields that a body adds, in byte order of their paths
abbrev pub drafts_added : ℕ → List (List ℕ) → JsonValue → List Draft
drafts_added g known body = filter (λ d. not (is_among known d.path)) (in_byte_order (λ d. d.path) (map (draft_of g) (properties_of body)))

abbrev pub drafts_from : ℕ → List Draft → List JsonValue → List Draft
drafts_from g known [] = known
drafts_from g known (body ∷ bodies) = drafts_from (g + 1) (known ++ drafts_added g (draft_paths known) body) bodies

-- the fields of bodies, by their numbers: those of a body stand behind those of the bodies before it
unfoldable pub drafts_of : List JsonValue → List Draft
drafts_of bodies = drafts_from 1 [] bodies

abbrev pub additions_from : ℕ → List Draft → List JsonValue → List Property
additions_from g known [] = []
additions_from g known (body ∷ bodies) =
    properties_added (draft_paths known) body ++ additions_from (g + 1) (known ++ drafts_added g (draft_paths known) body) bodies

-- the properties that bodies have, each where it is said first
unfoldable pub additions_of : List JsonValue → List Property
additions_of bodies = additions_from 1 [] bodies
