-- The objects of a tree: its root, and the JSON objects found at nested fields (Elasticsearch reference, nested field
-- type: each is a document of its own). An object is kept with all that lies around it, so that the way out is a step.
use Rattle.std.specs.Prelude.{ℕ, zero, suc, ◌+◌, ◌==◌, Bool, List, [], ◌∷◌, ◌++◌, length, filter, nat_le, if◌then◌else◌}
use Rattle.std.specs.List.{flat_map}
use Rattle.std.specs.Str.{bytes_eq}
use Rattle.tree_json.specs.Value.{JsonValue, null, bool, whole, text, list, object, Elements, no_elements, element, Members, no_members, member, is_object}
use Rattle.mapping.specs.Mapping.{Mapping, scope_at, outer, kids}
use Rattle.tree_objects.specs.Tree.{Tree}

-- ---- walking a value by names

-- The items that a value has along names, in document order: a list gives those of its elements, null gives none, and
-- with no name left the value itself is the one item. With a name left an object gives those of that member.
abbrev mutual
  pub items : JsonValue → List (List ℕ) → List JsonValue
  items null names = []
  items (list ds) names = items_in ds names
  items (object ms) [] = object ms ∷ []
  items (object ms) (name ∷ names) = items_at ms name names
  items (bool b) [] = bool b ∷ []
  items (whole z) [] = whole z ∷ []
  items (text s) [] = text s ∷ []
  items (bool b) (name ∷ names) = []
  items (whole z) (name ∷ names) = []
  items (text s) (name ∷ names) = []

  pub items_in : Elements → List (List ℕ) → List JsonValue
  items_in no_elements names = []
  -- a list within a list is walked as its elements are
  items_in (element d ds) names = items d names ++ items_in ds names

  pub items_at : Members → List ℕ → List (List ℕ) → List JsonValue
  items_at no_members name names = []
  items_at (member k d ms) name names = if bytes_eq k name then items d names else items_at ms name names

-- ---- objects

-- the root of a tree, or inside another object the one at a nested field, by the number of its scope, its offset among
-- the objects of that field there, from 0, and its content
pub data Object : Type 0 where
  root : Tree → Object
  inside : Object → ℕ → ℕ → JsonValue → Object

-- the scope that an object stands in; the root's is 0
abbrev pub scope : Object → ℕ
scope (root tree) = 0
scope (inside outer nested offset value) = nested

abbrev pub content : Object → JsonValue
content (root tree) = tree.source
content (inside outer nested offset value) = value

abbrev pub tree_of : Object → Tree
tree_of (root tree) = tree
tree_of (inside outer nested offset value) = tree_of outer

-- the way from the root: scopes with offsets
abbrev pub place : Object → List (ℕ × ℕ)
place (root tree) = []
place (inside outer nested offset value) = place outer ++ (nested, offset) ∷ []

abbrev pub numbered : Object → ℕ → ℕ → List JsonValue → List Object
numbered o n offset [] = []
numbered o n offset (value ∷ values) = inside o n offset value ∷ numbered o n (offset + 1) values

-- the scope stands in the mapping generation of the object's tree
unfoldable pub given : Mapping → Object → ℕ → Bool
given m o n = nat_le (scope_at m n).since (tree_of o).generation

-- The objects at a nested path whose home is the object's scope. Objects alone are counted: what else stands there is
-- refused when the tree is written.
abbrev pub children : Mapping → Object → ℕ → List Object
children m o n =
    if given m o n then numbered o n 0 (filter is_object (items (content o) (scope_at m n).names)) else []

-- the object at a scope on the way out, the object itself where it stands there
abbrev pub around : Object → ℕ → Object
around (root tree) p = root tree
around (inside outer nested offset value) p =
    if nested == p then inside outer nested offset value else around outer p

-- ---- objects below an object

-- the nested paths from below scope s down to p, in order
abbrev pub climb : Mapping → ℕ → ℕ → ℕ → List ℕ → List ℕ
climb m zero s p found = found
climb m (suc left) s p found = if p == s then found else climb m left s (outer m p) (p ∷ found)

unfoldable pub way : Mapping → ℕ → ℕ → List ℕ
way m s p = climb m p s p []

abbrev pub below_along : Mapping → Object → List ℕ → List Object
below_along m o [] = o ∷ []
below_along m o (n ∷ ns) = flat_map (λ c. below_along m c ns) (children m o n)

-- the objects at scope p inside an object that stands above it, in document order
unfoldable pub below : Mapping → Object → ℕ → List Object
below m o p = below_along m o (way m (scope o) p)

-- ---- the block of a tree

-- the object behind all that stands inside it: for each of its nested paths in byte order the objects there, each
-- behind its own (`left` is how many levels may lie below)
abbrev pub objects : Mapping → ℕ → Object → List Object
objects m zero o = o ∷ []
objects m (suc left) o =
    flat_map (λ n. flat_map (λ c. objects m left c) (children m o n)) (kids m (scope o)) ++ (o ∷ [])

-- the objects of a tree in the order of the documents of its block, the root last (Lucene, the package `search.join`)
unfoldable pub block_objects : Mapping → Tree → List Object
block_objects m tree = objects m (length m.scopes) (root tree)
