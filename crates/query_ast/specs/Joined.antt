-- The trees that a join field relates to a tree (Elasticsearch reference, join field type). A child names the id of its
-- parent; either may be written first, and a child outlives its parent.
use Rattle.std.specs.Prelude.{ℕ, ◌==◌, Bool, true, false, ◌&&◌, List, [], filter, map, Option, Some, None, if◌then◌else◌}
use Rattle.std.specs.Str.{bytes_eq}
use Rattle.mapping.specs.Mapping.{Mapping, relation_at}
use Rattle.tree_objects.specs.Object.{Object, root, inside, tree_of}
use Rattle.tree_objects.specs.Tree.{Tree}
use Rattle.tree_objects.specs.Values.{Joined, join_of}

abbrev pub is_root : Object → Bool
is_root (root tree) = true
is_root (inside outer nested offset value) = false

abbrev pub roots : List Tree → List Object
roots trees = map (λ tree. root tree) trees

-- the number is known, and it is this one
abbrev pub is_number : Option ℕ → ℕ → Bool
is_number None n = false
is_number (Some k) n = k == n

-- the id is known, and it is this one
abbrev pub is_id : Option (List ℕ) → List ℕ → Bool
is_id None id = false
is_id (Some known) id = bytes_eq known id

-- the tree has this relation
abbrev pub has_relation : Option Joined → ℕ → Bool
has_relation None r = false
has_relation (Some j) r = j.relation == r

-- and it names this id as its parent's
abbrev pub names_parent : Option Joined → List ℕ → Bool
names_parent None id = false
names_parent (Some j) id = is_id j.parent id

-- the first relation is the parent of the second
abbrev pub is_parent_relation : Mapping → Option Joined → Option Joined → Bool
is_parent_relation m None child = false
is_parent_relation m (Some p) None = false
is_parent_relation m (Some p) (Some c) = is_number (relation_at m c.relation).parent p.relation

-- the second tree is a child of the first: it names that one's id, and its relation's parent is that one's relation
abbrev pub is_child : Mapping → Tree → Tree → Bool
is_child m parent child = is_parent_relation m (join_of m parent) (join_of m child) && names_parent (join_of m child) parent.id

-- by this relation
abbrev pub is_child_by : Mapping → ℕ → Tree → Tree → Bool
is_child_by m r parent child = has_relation (join_of m child) r && is_child m parent child

abbrev pub is_parent_by : Mapping → ℕ → Tree → Tree → Bool
is_parent_by m r child parent = has_relation (join_of m parent) r && is_child m parent child

-- The live trees of a child relation whose parent a root's tree is. No other object has child trees.
unfoldable pub child_trees : Mapping → List Tree → ℕ → Object → List Tree
child_trees m live r o = if is_root o then filter (is_child_by m r (tree_of o)) live else []

-- The live trees of a parent relation that a root's tree is a child of; there is at most one, since ids differ.
unfoldable pub parent_trees : Mapping → List Tree → ℕ → Object → List Tree
parent_trees m live r o = if is_root o then filter (is_parent_by m r (tree_of o)) live else []
