-- A mapping: what bodies say together, as numbered fields with their homes, scopes and relations.
use Rattle.std.specs.Prelude.{ℕ, zero, suc, ◌+◌, ◌≡◌, ◌==◌, Bool, true, false, ◌&&◌, ◌||◌, if◌then◌else◌, nat_le, nat_lt, List, [], ◌∷◌, length, take, map, filter, Option, Some, None, option_and_then, unwrap_or, get_or}
use Rattle.std.specs.List.{list_any, last_or, range_with_len}
use Rattle.tree_json.specs.Value.{JsonValue, null}
use Rattle.mapping_body.specs.declared.kind.Kind.{Kind}
use Rattle.mapping_body.specs.declared.kind.Kind.TheVariants.{Object}
use Rattle.mapping_body.specs.Names.{has_dot, joined, place_of, lies_above, names_between}
use Rattle.mapping_body.specs.Body.{is_nested, index_of}
use Rattle.mapping_growth.specs.Bodies.{is_number}
use Rattle.mapping_growth.specs.Fields.{Draft, draft_paths, drafts_of}
use Rattle.mapping_body.specs.Order.{order_from}
use Rattle.mapping_growth.specs.Relations.{Relation, relation_names, relations_of}

-- a field: its path, its kind, the scope that is its home, and the mapping generation that added it, from 1
pub record Field : Type 0 where
  pub path : List ℕ
  pub kind : Kind
  pub home : ℕ
  pub since : ℕ

-- a scope, which is the root or a nested path: its path, the scope around it, the names that lead there from the scope
-- around it, whether its values are included in the scope around it and in the root, and the generation that added it
pub record Scope : Type 0 where
  pub path : List ℕ
  pub around : ℕ
  pub names : List (List ℕ)
  pub in_parent : Bool
  pub in_root : Bool
  pub since : ℕ

-- A mapping: the JSON bodies that made it, in order, whether sources add to it, the name of its index, its fields from number 0, its scopes with
-- the root as number 0, the numbers of the nested scopes in byte order of their paths, and its relations from number 0.
pub record Mapping : Type 0 where
  pub bodies : List JsonValue
  pub dynamic : Bool
  pub index : List ℕ
  pub fields : List Field
  pub scopes : List Scope
  pub order : List ℕ
  pub relations : List Relation

-- ---- scopes and homes

-- the paths of the scopes: the root's, which is empty, and those of the nested fields
abbrev pub nested_among : List Draft → List Draft
nested_among ds = filter (λ d. is_nested d.kind) ds

abbrev pub scope_paths : List Draft → List (List ℕ)
scope_paths ds = [] ∷ draft_paths (nested_among ds)

-- the scopes whose paths lie above a path, by their numbers
abbrev pub scopes_above : List (List ℕ) → List ℕ → List ℕ
scopes_above paths path = filter (λ n. lies_above (get_or paths n []) path) (range_with_len 0 (length paths))

-- the nearest scope strictly above a path: of those above it, each of which lies above the next, the last
abbrev pub nearest : List (List ℕ) → List ℕ → ℕ
nearest paths path = unwrap_or (last_or None (scopes_above paths path)) 0

abbrev pub root_scope : Scope
root_scope = record { path = []; around = 0; names = []; in_parent = false; in_root = false; since = 1 }

abbrev pub scope_by : List (List ℕ) → Draft → Scope
scope_by paths d = record {
  path = d.path;
  around = nearest paths d.path;
  names = names_between (get_or paths (nearest paths d.path) []) d.path;
  in_parent = d.in_parent;
  in_root = d.in_root;
  since = d.since;
}

abbrev pub scopes_by : List Draft → List Scope
scopes_by ds = root_scope ∷ map (scope_by (scope_paths ds)) (nested_among ds)

abbrev pub field_by : List (List ℕ) → Draft → Field
field_by paths d = record { path = d.path; kind = d.kind; home = nearest paths d.path; since = d.since }

abbrev pub fields_by : List Draft → List Field
fields_by ds = map (field_by (scope_paths ds)) ds

-- ---- the mapping

abbrev pub mapping_by : List JsonValue → Bool → List Draft → Mapping
mapping_by bodies dynamic ds = record {
  bodies = bodies;
  dynamic = dynamic;
  index = index_of (get_or bodies 0 null);
  fields = fields_by ds;
  scopes = scopes_by ds;
  order = order_from 1 (scope_paths ds);
  relations = relations_of bodies;
}

-- Fields are numbered from 0, scopes of nested paths from 1 and relations from 0, in order of the bodies that add them
-- and, within one body, in byte order of their paths. Plain objects, nested fields and the join field are numbered too.
abbrev pub mapping_of : List JsonValue → Bool → Mapping
mapping_of bodies dynamic = mapping_by bodies dynamic (drafts_of bodies)

-- ---- look-ups

abbrev pub no_field : Field
no_field = record { path = []; kind = Object; home = 0; since = 0 }

abbrev pub no_relation : Relation
no_relation = record { name = []; parent = None; since = 0 }

abbrev pub field_at : Mapping → ℕ → Field
field_at m f = get_or m.fields f no_field

abbrev pub scope_at : Mapping → ℕ → Scope
scope_at m n = get_or m.scopes n root_scope

abbrev pub relation_at : Mapping → ℕ → Relation
relation_at m r = get_or m.relations r no_relation

abbrev pub kind_at : Mapping → ℕ → Kind
kind_at m f = (field_at m f).kind

abbrev pub home_of : Mapping → ℕ → ℕ
home_of m f = (field_at m f).home

-- the scope around a scope; the root stands in itself
abbrev pub outer : Mapping → ℕ → ℕ
outer m n = (scope_at m n).around

-- the scope around a nested path, and none for the root
abbrev pub around_of : Mapping → ℕ → Option ℕ
around_of m n = if n == 0 then None else Some (outer m n)

abbrev pub field_named : Mapping → List ℕ → Option ℕ
field_named m path = place_of path (map (λ f. f.path) m.fields)

abbrev pub scope_named : Mapping → List ℕ → Option ℕ
scope_named m path = place_of path (map (λ s. s.path) m.scopes)

abbrev pub relation_named : Mapping → List ℕ → Option ℕ
relation_named m name = place_of name (relation_names m.relations)

-- the nested field of a scope, and none for the root
abbrev pub scope_field_of : Mapping → ℕ → Option ℕ
scope_field_of m n = if n == 0 then None else field_named m (scope_at m n).path

-- the names that lead from the home of a field to it
abbrev pub names_to : Mapping → ℕ → List (List ℕ)
names_to m f = names_between (scope_at m (home_of m f)).path (field_at m f).path

-- the nested paths whose home is a scope, in byte order
abbrev pub kids : Mapping → ℕ → List ℕ
kids m s = filter (λ n. outer m n == s) m.order

-- some relation has this one as its parent
abbrev pub is_parent : Mapping → ℕ → Bool
is_parent m r = list_any (λ other. is_number r other.parent) m.relations

-- ---- what stands in the mapping of a generation

-- the last generation
abbrev pub generation_of : Mapping → ℕ
generation_of m = length m.bodies

-- the mapping of a generation, which is that of the bodies up to it
abbrev pub mapping_at : Mapping → ℕ → Mapping
mapping_at m g = mapping_of (take g m.bodies) m.dynamic

abbrev pub knows : Mapping → ℕ → ℕ → Bool
knows m g f = nat_le (field_at m f).since g

abbrev pub knows_relation : Mapping → ℕ → ℕ → Bool
knows_relation m g r = nat_le (relation_at m r).since g

abbrev pub if_known : (ℕ → Bool) → ℕ → Option ℕ
if_known known n = if known n then Some n else None

-- the field of a name below a path; a name with a dot is no path, and has none
abbrev pub field_below : Mapping → ℕ → List ℕ → List ℕ → Option ℕ
field_below m g path name = if has_dot name then None else option_and_then (if_known (knows m g)) (field_named m (joined path name))

abbrev pub relation_known : Mapping → ℕ → List ℕ → Option ℕ
relation_known m g name = option_and_then (if_known (knows_relation m g)) (relation_named m name)

-- ---- above

-- scope a lies above scope b: the names of a are a proper prefix of the names of b
abbrev pub is_above : Mapping → ℕ → ℕ → Bool
is_above m a b = nat_lt a (length m.scopes) && lies_above (scope_at m a).path (scope_at m b).path

abbrev pub IsAbove : Mapping → ℕ → ℕ → Type 0
IsAbove m a b = is_above m a b ≡ true

-- ---- where a field's values show

-- the values that objects of scope n show are included in scope s: by n being s, or by the flags of n
abbrev pub reaches : Mapping → ℕ → ℕ → ℕ → Bool
reaches m zero n s = n == s
reaches m (suc left) n s =
    n == s
    || (((scope_at m n).in_parent && reaches m left (outer m n) s)
    || ((scope_at m n).in_root && s == 0))

-- A field shows its values at its home. Where a nested path that shows them has `include_in_parent` the scope around
-- it shows them too, and where it has `include_in_root` so does the root (Elasticsearch reference, nested field type).
unfoldable pub included : Mapping → ℕ → ℕ → Bool
included m f s = reaches m (home_of m f) (home_of m f) s

-- the same as a relation: what the objects of a scope show is included in that scope, and by the flags of a nested path
-- wherever the scope around it includes it, and in the root
pub data IsIncluded (m : Mapping) : ℕ → ℕ → Type 0 where
  itself : (n : ℕ) → IsIncluded m n n
  by_parent : (n s : ℕ) → (scope_at m n).in_parent ≡ true → IsIncluded m (outer m n) s → IsIncluded m n s
  by_root : (n : ℕ) → (scope_at m n).in_root ≡ true → IsIncluded m n 0

-- in a tree of generation g: a field that isn't in that generation is shown nowhere
abbrev pub shows : Mapping → ℕ → ℕ → ℕ → Bool
shows m g f s = knows m g f && included m f s
