-- Blocks of segments: the live ones among them, and those that stand for trees.
use Rattle.std.proofs.Common.{◌≡◌, ℕ, List, [], ◌∷◌, ◌++◌, map, filter, refl, sym, ap, ◌∙◌, append-nil}
use Rattle.std.specs.List.{flat_map}
use Rattle.commit_store.specs.Preparing.{SaysView}
use Rattle.commit_store.specs.Saying.{StoreCommit, entries_of}
use Rattle.flattener.specs.Block.{BlockState, root_of_tree}
use Rattle.index_core.specs.Kept.{segments_kept}
use Rattle.layout.proofs.Images.{live_items_as}
use Rattle.layout.specs.Layout.{Layout, Marked, is_live, item_in, live_in, live_items}
use Rattle.mapping.specs.Mapping.{Mapping}
use Rattle.segment.specs.Live.{EntryState}
use Rattle.segment_builder.specs.Blocks.{blocks_in}
use Rattle.tree_objects.specs.Tree.{Tree}
use Rattle.index_trees.specs.Content.{AreBlocksOf, IsBlockOf, live_said}
use Rattle.index_trees.specs.Faithful.{Indexed, StandsFor, block_in, tree_in}

pub map-map : {A B C : Type 0} (g : B → C) (f : A → B) (xs : List A) → map g (map f xs) ≡ map (λ x. g (f x)) xs
map-map g f [] = refl
map-map g f (x ∷ xs) = ap (λ ys. g (f x) ∷ ys) (map-map g f xs)

-- ---- what is live

abbrev live_marked : List (Marked BlockState) → List BlockState
live_marked items = map item_in (filter is_live items)

live_by : (entries : List EntryState) → flat_map live_in (segments_kept entries) ≡ flat_map live_marked (map blocks_in entries)
live_by [] = refl
live_by (entry ∷ entries) = ap (λ (rest : List BlockState). live_marked (blocks_in entry) ++ rest) (live_by entries)

-- the live blocks that a commit says are those of the view
pub live_of_view : (m : Mapping) (next : ℕ) (view : List EntryState) (c : StoreCommit) → SaysView m next view c → live_said c ≡ flat_map live_in (segments_kept view)
live_of_view m next view c says =
    append-nil (flat_map live_in (segments_kept (entries_of c)))
    ∙ live_by (entries_of c)
    ∙ ap (flat_map live_marked) says.blocks
    ∙ sym (live_by view)

pub live_trees : (m : Mapping) (kept : Layout BlockState) (layout : Layout Tree) (s : StandsFor m kept layout) → live_items layout ≡ map (tree_in m) (live_items s.indexed)
live_trees m kept layout s = ap live_items s.trees ∙ live_items_as (tree_in m) s.indexed

pub live_blocks : (m : Mapping) (kept : Layout BlockState) (layout : Layout Tree) (s : StandsFor m kept layout) → live_items kept ≡ map (block_in m) (live_items s.indexed)
live_blocks m kept layout s = ap live_items s.blocks ∙ live_items_as (block_in m) s.indexed

-- ---- blocks of trees

block_of_tree : (m : Mapping) (it : Indexed m) → IsBlockOf (block_in m it) (tree_in m it)
unfolding root_of_tree
block_of_tree m it = record { id = refl; number = refl; generation = refl; source = refl; reads = it.reads }

pub blocks_of_trees : (m : Mapping) (its : List (Indexed m)) → AreBlocksOf (map (block_in m) its) (map (tree_in m) its)
blocks_of_trees m [] = tt
blocks_of_trees m (it ∷ its) = (block_of_tree m it, blocks_of_trees m its)
