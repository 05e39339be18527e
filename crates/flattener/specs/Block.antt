-- The block of a tree: the flat documents of its objects, the root's last, and what is kept of the root.
use Rattle.std.specs.Prelude.{ℕ, ◌-◌, nat_lt, Bool, if◌then◌else◌, List, length, map, Option, Some, None}
use Rattle.mapping.specs.Mapping.{Mapping}
use Rattle.segment.specs.Flat.{FlatDocument, FlatRoot}
use Rattle.stored_sources.specs.declared.root.Join.{Join}
use Rattle.stored_sources.specs.declared.root.Join.TheVariants.{Unjoined, Named, Child}
use Rattle.tree_json.specs.Text.{compact}
use Rattle.tree_json.specs.Value.{JsonValue}
use Rattle.tree_objects.specs.declared.fault.Fault.{Fault}
use Rattle.tree_objects.specs.declared.fault.Fault.TheVariants.{WrongType, TermTooLong, BadJoin}
use Rattle.tree_objects.specs.Fault.{first_fault}
use Rattle.tree_objects.specs.Object.{block_objects}
use Rattle.tree_objects.specs.Tree.{Tree}
use Rattle.tree_objects.specs.Values.{Joined, join_of}
use Rattle.flattener.specs.declared.refusal.FlattenRefusal.{FlattenRefusal}
use Rattle.flattener.specs.declared.refusal.FlattenRefusal.TheVariants as why
use Rattle.flattener.specs.Flat.{flat_of}

-- a tree by what `block` is given
abbrev pub tree_given : List ℕ → ℕ → JsonValue → ℕ → Tree
tree_given id number source generation = record { id = id; number = number; source = source; generation = generation }

-- the documents of a tree: each nested object before the one around it, the root last
unfoldable pub flats_of_tree : Mapping → Tree → List FlatDocument
flats_of_tree m tree = map (flat_of m) (block_objects m tree)

abbrev pub join_by : ℕ → Option (List ℕ) → Join
join_by relation None = Named relation
join_by relation (Some parent) = Child relation parent

-- how a tree's relation is kept
abbrev pub kept_join : Option Joined → Join
kept_join None = Unjoined
kept_join (Some joined) = join_by joined.relation joined.parent

-- what is kept of a root: its id, its sequence number, the generation of the mapping that it was indexed under, its
-- relation in that generation, and its source as compact text
unfoldable pub root_of_tree : Mapping → Tree → FlatRoot
root_of_tree m tree = record {
  id = tree.id;
  number = tree.number;
  generation = tree.generation;
  join = kept_join (join_of m tree);
  source = compact tree.source;
}

-- a block, as it is handed on: its documents, and what is kept of its root
pub record BlockState : Type 0 where
  pub flats : List FlatDocument
  pub root : FlatRoot

abbrev pub block_of : Mapping → Tree → BlockState
block_of m tree = record { flats = flats_of_tree m tree; root = root_of_tree m tree }

-- the objects of a tree but for its root
abbrev pub nested_count : Mapping → Tree → ℕ
nested_count m tree = length (block_objects m tree) - 1

-- a tree has at most 10,000 nested objects
abbrev pub most_nested : ℕ
most_nested = 10_000

-- so a block has at most so many documents, the root's among them
abbrev pub most_documents : ℕ
most_documents = 10_001

-- why a source has no block: its first fault, or its number of objects
abbrev pub refusal_of : Option Fault → Bool → Option FlattenRefusal
refusal_of (Some (WrongType f)) many = Some (why.WrongType f)
refusal_of (Some (TermTooLong f)) many = Some (why.TermTooLong f)
refusal_of (Some BadJoin) many = Some why.BadJoin
refusal_of None many = if many then Some why.TooManyObjects else None

unfoldable pub block_refusal : Mapping → Tree → Option FlattenRefusal
block_refusal m tree = refusal_of (first_fault m tree.generation tree.source) (nat_lt most_nested (nested_count m tree))
