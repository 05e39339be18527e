-- What a segment with its live bits says of trees: its documents are their blocks, one behind the other.
use Rattle.std.specs.Prelude.{◌≡◌, Bool, List, [], ◌∷◌, map, ⊤}
use Rattle.std.specs.List.{flat_map}
pub use Rattle.layout.specs.Layout.{Marked}
use Rattle.mapping.specs.IsMapping.{IsMapping}
use Rattle.mapping.specs.Mapping.{Mapping}
use Rattle.segment.specs.Flat.{FlatDocument, flats_of, roots_of}
use Rattle.segment.specs.Live.{EntryState, LiveState}
use Rattle.segment_parts.specs.declared.columns.Columns.{Columns}
use Rattle.tree_objects.specs.Object.{Object, block_objects}
use Rattle.tree_objects.specs.Tree.{Tree}
use Rattle.flattener.specs.Block.{root_of_tree}
use Rattle.flattener.specs.Flat.{flat_of}

-- something of each document of each tree's block, in order; it may look at the tree's mark and at the document's object
abbrev pub by_document : {A : Type 0} → Mapping → (Bool → Object → A) → List (Marked Tree) → List A
by_document {A} m f trees = flat_map (λ (t : Marked Tree). map (f t.live) (block_objects m t.item)) trees

abbrev pub flat_at : Mapping → Bool → Object → FlatDocument
flat_at m live o = flat_of m o

abbrev pub live_mark : Bool → Object → Bool
live_mark live o = live

-- The documents are the blocks of these trees, the roots carry what is kept of each, and a document, as its root, is
-- live exactly where its tree is. A segment may have fewer scopes than the mapping.
pub record EntryStandsFor (m : Mapping) (columns : Columns) (bits : LiveState) (trees : List (Marked Tree)) : Type 0 where
  pub mapping : IsMapping m
  pub flats : flats_of columns ≡ by_document m (flat_at m) trees
  pub roots : roots_of columns ≡ map (λ (t : Marked Tree). root_of_tree m t.item) trees
  pub live : bits.docs ≡ by_document m live_mark trees
  pub live_roots : bits.roots ≡ map (λ (t : Marked Tree). t.live) trees

-- each entry of a view stands for its own trees
abbrev pub ViewStandsFor : Mapping → List EntryState → List (List (Marked Tree)) → Type 0
ViewStandsFor m [] [] = ⊤
ViewStandsFor m [] (trees ∷ more) = ⊥
ViewStandsFor m (entry ∷ entries) [] = ⊥
ViewStandsFor m (entry ∷ entries) (trees ∷ more) =
    EntryStandsFor m entry.columns entry.live trees × ViewStandsFor m entries more
