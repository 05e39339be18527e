-- The trees of roots, and the blocks that are made of them.
use Rattle.std.specs.Prelude.{◌≡◌, List, map}
use Rattle.std.specs.List.{AllByRecursion, AllZip}
use Rattle.flattener.specs.Block.{BlockState, block_of, root_of_tree}
use Rattle.mapping.specs.Mapping.{Mapping}
use Rattle.segment.specs.Flat.{FlatRoot}
use Rattle.segment_builder.specs.Blocks.{blocks_of}
use Rattle.segment_parts.specs.declared.columns.Columns.{Columns}
use Rattle.tree_objects.specs.Tree.{Tree}
use Rattle.store_check.specs.Held.{IsSound}

-- the blocks of columns are those of trees that can have been indexed
pub record AreOfTrees (m : Mapping) (columns : Columns) : Type 0 where
  pub trees : List Tree
  pub sound : AllByRecursion (IsSound m) trees
  pub blocks : blocks_of columns ≡ map (block_of m) trees

-- no such tree has this root
abbrev pub IsOfNoTree : Mapping → FlatRoot → Type 0
IsOfNoTree m root = (tree : Tree) → IsSound m tree → root ≡ root_of_tree m tree → ⊥

-- a block of the one tree that the root may be of
pub record IsBlockOf (m : Mapping) (root : FlatRoot) (block : BlockState) : Type 0 where
  pub tree : Tree
  pub sound : IsSound m tree
  pub is : block ≡ block_of m tree
  pub only : (other : Tree) → IsSound m other → root ≡ root_of_tree m other → other ≡ tree

abbrev pub AreOfNoTrees : Mapping → List FlatRoot → Type 0
AreOfNoTrees m roots = (trees : List Tree) → AllByRecursion (IsSound m) trees → roots ≡ map (root_of_tree m) trees → ⊥

-- each root with its block
abbrev pub AreBlocksOf : Mapping → List FlatRoot → List BlockState → Type 0
AreBlocksOf m roots blocks = AllZip (IsBlockOf m) roots blocks
