-- Blocks and trees with marks.
use Rattle.std.proofs.Common.{◌≡◌, Bool, List, [], ◌∷◌, length, map, refl, sym, ap, ◌∙◌, arith}
use Rattle.std.specs.List.{AllByRecursion}
use Rattle.flattener.specs.Block.{BlockState, block_of}
use Rattle.flattener.specs.StandsFor.{Marked}
use Rattle.layout.specs.Layout.{item_in}
use Rattle.mapping.specs.Mapping.{Mapping}
use Rattle.segment.specs.Live.{EntryState}
use Rattle.segment_builder.specs.Blocks.{block_of_marked, blocks_of, marked_by}
use Rattle.tree_objects.specs.Tree.{Tree}
use Rattle.store_check.specs.Held.{IsHeld, IsSound}
use Rattle.store_check.specs.Made.{AreOfTrees}

marked_trees : List Tree → List Bool → List (Marked Tree)
marked_trees [] marks = []
marked_trees (tree ∷ trees) [] = []
marked_trees (tree ∷ trees) (mark ∷ marks) = record { item = tree; live = mark } ∷ marked_trees trees marks

marked_blocks : (m : Mapping) (trees : List Tree) (marks : List Bool) → marked_by (map (block_of m) trees) marks ≡ map (block_of_marked m) (marked_trees trees marks)
unfolding marked_trees
marked_blocks m [] marks = refl
marked_blocks m (tree ∷ trees) [] = refl
marked_blocks m (tree ∷ trees) (mark ∷ marks) =
    ap (λ (it : List (Marked BlockState)). block_of_marked m (record { item = tree; live = mark }) ∷ it) (marked_blocks m trees marks)

marked_sound : (m : Mapping) (trees : List Tree) (marks : List Bool) → AllByRecursion (IsSound m) trees → AllByRecursion (λ (tree : Marked Tree). IsSound m tree.item) (marked_trees trees marks)
unfolding marked_trees
marked_sound m [] marks sound = tt
marked_sound m (tree ∷ trees) [] sound = tt
marked_sound m (tree ∷ trees) (mark ∷ marks) sound = (sound.0, marked_sound m trees marks sound.1)

pub held_from_trees : (m : Mapping) (entry : EntryState) → AreOfTrees m entry.columns → IsHeld m entry
held_from_trees m entry of = record {
  trees = marked_trees of.trees entry.live.roots;
  sound = marked_sound m of.trees entry.live.roots of.sound;
  blocks = ap (λ (it : List BlockState). marked_by it entry.live.roots) of.blocks ∙ marked_blocks m of.trees entry.live.roots;
}

items_marked : (blocks : List BlockState) (marks : List Bool) → length blocks ≡ length marks → map item_in (marked_by blocks marks) ≡ blocks
items_marked [] marks long = refl
items_marked (block ∷ blocks) [] long = absurd (omega (arith, long))
items_marked (block ∷ blocks) (mark ∷ marks) long = ap (λ (it : List BlockState). block ∷ it) (items_marked blocks marks (omega (arith, long)))

items_of : (m : Mapping) (trees : List (Marked Tree)) → map item_in (map (block_of_marked m) trees) ≡ map (block_of m) (map item_in trees)
items_of m [] = refl
items_of m (tree ∷ trees) = ap (λ (it : List BlockState). block_of m tree.item ∷ it) (items_of m trees)

items_sound : (m : Mapping) (trees : List (Marked Tree)) → AllByRecursion (λ (tree : Marked Tree). IsSound m tree.item) trees → AllByRecursion (IsSound m) (map item_in trees)
items_sound m [] sound = tt
items_sound m (tree ∷ trees) sound = (sound.0, items_sound m trees sound.1)

pub trees_from_held : (m : Mapping) (entry : EntryState) → length (blocks_of entry.columns) ≡ length entry.live.roots → IsHeld m entry → AreOfTrees m entry.columns
trees_from_held m entry long held = record {
  trees = map item_in held.trees;
  sound = items_sound m held.trees held.sound;
  blocks = sym (items_marked (blocks_of entry.columns) entry.live.roots long) ∙ (ap (map item_in) held.blocks ∙ items_of m held.trees);
}
