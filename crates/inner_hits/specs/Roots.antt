-- Serves proofs: the stored root of a document's tree.
use Rattle.std.specs.Prelude.{◌≡◌, ℕ, false, List, slice_get, get_or, Some}
use Rattle.flattener.specs.Block.{root_of_tree}
use Rattle.flattener.specs.StandsFor.{Marked}
use Rattle.mapping.specs.Mapping.{Mapping}
use Rattle.segment.specs.Flat.{flat_root}
use Rattle.segment.specs.Live.{LiveState}
use Rattle.segment_parts.specs.declared.columns.Columns.{Columns}
use Rattle.stored_sources.specs.Roots.{root_of}
use Rattle.tree_objects.specs.Object.{tree_of}
use Rattle.tree_objects.specs.Tree.{Tree}
use Rattle.view_objects.specs.Hits.{document_object}

-- it is what is kept of the tree, which is the one of that number, and the document is live where the tree is
pub record IsRootOf (m : Mapping) (columns : Columns) (bits : LiveState) (trees : List (Marked Tree)) (doc root : ℕ) : Type 0 where
  pub kept : flat_root (root_of columns.roots root) ≡ root_of_tree m (tree_of (document_object m trees doc))
  pub tree : slice_get trees root ≡ Some (record { item = tree_of (document_object m trees doc); live = get_or bits.docs doc false })
