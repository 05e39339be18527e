-- Which documents a leaf finds: those of the live objects of one scope at which it holds (Elasticsearch reference,
-- term-level queries and full text queries).
use Rattle.std.specs.Prelude.{◌≡◌, ℕ, ◌==◌, Bool, ◌&&◌, List, length, count_by, Option, Some, None}
use Rattle.block_bits.specs.Flags.{is_marked}
use Rattle.query_ast.specs.Clause.{Leaf, Clause, leaf, bool, constant_score, dis_max, nested, to_child, has_child, has_parent}
use Rattle.query_ast.specs.Leaf.{leaf_holds}
use Rattle.query_ast.specs.Resolved.{IsLeaf}
use Rattle.mapping.specs.Mapping.{Mapping}
use Rattle.segment.specs.Live.{LiveState}
use Rattle.segment_parts.specs.declared.columns.Columns.{Columns}
use Rattle.tree_objects.specs.Object.{Object, scope}
use Rattle.tree_objects.specs.Tree.{Tree}
use Rattle.flattener.specs.StandsFor.{EntryStandsFor, Marked, by_document}

-- a live object of the scope that passes a test
abbrev pub found : ℕ → (Object → Bool) → Bool → Object → Bool
found n test live o = live && (scope o == n && test o)

-- the leaf that a clause is, if it is one: it looks at one object alone
abbrev pub leaf_of : Clause → Option Leaf
leaf_of (leaf l boost) = Some l
leaf_of (bool must filter should must_not least) = None
leaf_of (constant_score c boost) = None
leaf_of (dis_max cs) = None
leaf_of (nested n c mode) = None
leaf_of (to_child n c) = None
leaf_of (has_child r c mode least most) = None
leaf_of (has_parent r c score boost) = None

-- A set of a segment's documents is what a leaf finds in a scope, whichever trees the segment stands for: those of live
-- objects of the scope at which the leaf holds. The leaf is one that was resolved under the mapping.
pub record Finds (m : Mapping) (columns : Columns) (live : LiveState) (n : ℕ) (l : Leaf) (set : List Bool) : Type 0 where
  pub long : length set ≡ columns.documents
  pub found : (trees : List (Marked Tree)) → EntryStandsFor m columns live trees → IsLeaf m l
      → set ≡ by_document m (found n (leaf_holds m l)) trees

-- so many documents are what a leaf finds in a scope
pub record Counts (m : Mapping) (columns : Columns) (live : LiveState) (n : ℕ) (l : Leaf) (count : ℕ) : Type 0 where
  pub those : List Bool
  pub found : Finds m columns live n l those
  pub counted : count ≡ count_by is_marked those
