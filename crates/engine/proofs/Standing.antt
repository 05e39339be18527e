-- Blocks that stand for trees, item by item, whatever is done to the layout.
use Rattle.std.proofs.Common.{◌≡◌, ◌≤◌, ◌+◌, ℕ, Bool, true, false, List, [], ◌∷◌, length, map, Option, Some, None, option_map, refl, sym, ap, ◌∙◌, arith}
use Rattle.std.proofs.lemmas.List.{length-map}
use Rattle.std.proofs.lemmas.List.Sums.{sum_by-cons}
use Rattle.std.specs.List.{find, flat_map}
use Rattle.flattener.specs.Block.{BlockState, block_of, flats_of_tree, root_of_tree}
use Rattle.flattener.specs.Flat.{flat_of}
use Rattle.index_core.specs.Kept.{has_block_id, block_number}
use Rattle.layout.specs.As.{layout_as, marked_as, segment_as}
use Rattle.layout.specs.Layout.{Layout, SegmentOf, live_in, live_items, sealed, with_change}
use Rattle.layout.proofs.Images.{live_each, live_items_as, sealed_as, change_as}
use Rattle.mapping.specs.Growth.{HasFurtherBodies}
use Rattle.mapping.specs.IsMapping.{IsMapping}
use Rattle.mapping.specs.Mapping.{Mapping, generation_of}
use Rattle.machine.specs.Write.{object_count}
use Rattle.segment.specs.Live.{EntryState}
use Rattle.segment_builder.specs.Blocks.{block_objects as objects_at, objects_of}
use Rattle.tree_objects.specs.Object.{block_objects}
use Rattle.tree_objects.specs.Tree.{Tree, has_id}
use Rattle.index_trees.specs.Faithful.{EntriesStandFor, Indexed, StandsFor, block_in, tree_in}

pub map-map : {A B C : Type 0} (g : B → C) (f : A → B) (xs : List A) → map g (map f xs) ≡ map (λ x. g (f x)) xs
map-map g f [] = refl
map-map g f (x ∷ xs) = ap (λ ys. g (f x) ∷ ys) (map-map g f xs)

as_as : {A B C : Type 0} (g : B → C) (f : A → B) (l : Layout A) → layout_as g (layout_as f l) ≡ layout_as (λ a. g (f a)) l
as_as {A} {B} {C} g f l =
    let segments : map (segment_as g) (map (segment_as f) l.segments) ≡ map (segment_as (λ a. g (f a))) l.segments =
    map-map (segment_as g) (segment_as f) l.segments
    ∙ (λ i. map (λ (s : SegmentOf A). record { id = s.id; items = map-map (marked_as g) (marked_as f) s.items i }) l.segments) in
    let buffer : map g (map f l.buffer) ≡ map (λ a. g (f a)) l.buffer = map-map g f l.buffer in
    λ i. record { segments = segments i; buffer = buffer i; merges = l.merges; started = l.started; made = l.made; factor = l.factor }

-- ---- the live items

pub live_trees : (m : Mapping) (kept : Layout BlockState) (layout : Layout Tree) (s : StandsFor m kept layout) → live_items layout ≡ map (tree_in m) (live_items s.indexed)
live_trees m kept layout s = ap live_items s.trees ∙ live_items_as (tree_in m) s.indexed

pub live_blocks : (m : Mapping) (kept : Layout BlockState) (layout : Layout Tree) (s : StandsFor m kept layout) → live_items kept ≡ map (block_in m) (live_items s.indexed)
live_blocks m kept layout s = ap live_items s.blocks ∙ live_items_as (block_in m) s.indexed

-- ---- the mapping grows

abbrev grow : (m m2 : Mapping) → HasFurtherBodies m m2 → Indexed m → Indexed m2
grow m m2 further it = record {
  tree = it.tree;
  given = record { id = it.given.id; source = it.given.source; first = it.given.first; last = omega (arith, it.given.last, further.bodies) };
  reads = it.reads;
}

abbrev pub SameBlocks : Type 0
SameBlocks = (m m2 : Mapping) (tree : Tree) → IsMapping m → IsMapping m2 → HasFurtherBodies m m2 → tree.generation ≤ generation_of m → block_of m2 tree ≡ block_of m tree

blocks_grown : SameBlocks → (m m2 : Mapping) → IsMapping m → IsMapping m2 → (further : HasFurtherBodies m m2) → (its : Layout (Indexed m)) → layout_as (block_in m) its ≡ layout_as (block_in m2) (layout_as (grow m m2 further) its)
blocks_grown same m m2 is is2 further its =
    sym (λ i. layout_as (λ (it : Indexed m). same m m2 it.tree is is2 further it.given.last i) its) ∙ sym (as_as (block_in m2) (grow m m2 further) its)

pub grown_stands : SameBlocks → (m m2 : Mapping) → IsMapping m → IsMapping m2 → HasFurtherBodies m m2 → (kept : Layout BlockState) (layout : Layout Tree) → StandsFor m kept layout → StandsFor m2 kept layout
grown_stands same m m2 is is2 further kept layout s = record {
  indexed = layout_as (grow m m2 further) s.indexed;
  trees = s.trees ∙ sym (as_as (tree_in m2) (grow m m2 further) s.indexed);
  blocks = s.blocks ∙ blocks_grown same m m2 is is2 further s.indexed;
}

-- segments alone
abbrev in_segments : {A : Type 0} → List (SegmentOf A) → Layout A
in_segments {A} segments = record { segments = segments; buffer = []; merges = []; started = 0; made = 0; factor = None }

pub grown_entries : SameBlocks → (m m2 : Mapping) → IsMapping m → IsMapping m2 → HasFurtherBodies m m2 → (entries : List EntryState) (live : List Tree) → EntriesStandFor m entries live → EntriesStandFor m2 entries live
grown_entries same m m2 is is2 further entries live s = record {
  indexed = map (segment_as (grow m m2 further)) s.indexed;
  blocks = s.blocks ∙ ap (λ (l : Layout BlockState). l.segments) (blocks_grown same m m2 is is2 further (in_segments s.indexed));
  live_are = s.live_are
      ∙ sym (map-map (tree_in m2) (grow m m2 further) (flat_map live_in s.indexed))
      ∙ sym (ap (map (tree_in m2)) (live_each (grow m m2 further) s.indexed));
  numbered = s.numbered;
}

-- ---- sealing and changes

pub sealed_stands : (m : Mapping) (kept : Layout BlockState) (layout : Layout Tree) → StandsFor m kept layout → StandsFor m (sealed kept) (sealed layout)
sealed_stands m kept layout s = record {
  indexed = sealed s.indexed;
  trees = ap sealed s.trees ∙ sealed_as (tree_in m) s.indexed;
  blocks = ap sealed s.blocks ∙ sealed_as (block_in m) s.indexed;
}

pub same_kept : (m : Mapping) (kept kept' : Layout BlockState) (layout : Layout Tree) → kept' ≡ kept → StandsFor m kept layout → StandsFor m kept' layout
same_kept m kept kept' layout e s = record { indexed = s.indexed; trees = s.trees; blocks = e ∙ s.blocks }

abbrev pub has_own_id : (m : Mapping) → List ℕ → Indexed m → Bool
has_own_id m id it = has_id id it.tree

same_test : (m : Mapping) (id : List ℕ) (it : Indexed m) → has_block_id id (block_in m it) ≡ has_own_id m id it
unfolding root_of_tree
same_test m id it = refl

pub changed_stands : (m : Mapping) (id : List ℕ) (new : List (Indexed m)) (kept : Layout BlockState) (layout : Layout Tree) → StandsFor m kept layout
    → StandsFor m (with_change (has_block_id id) (map (block_in m) new) kept) (with_change (has_id id) (map (tree_in m) new) layout)
changed_stands m id new kept layout s = record {
  indexed = with_change (has_own_id m id) new s.indexed;
  trees = ap (with_change (has_id id) (map (tree_in m) new)) s.trees ∙ change_as (tree_in m) (has_own_id m id) (has_id id) (λ it. refl) new s.indexed;
  blocks = ap (with_change (has_block_id id) (map (block_in m) new)) s.blocks ∙ change_as (block_in m) (has_own_id m id) (has_block_id id) (same_test m id) new s.indexed;
}

-- ---- what is found by an id

-- what stands under an id, among trees and among their blocks
pub record IsFound (m : Mapping) (id : List ℕ) (trees : List Tree) (blocks : List BlockState) : Type 0 where
  pub it : Option (Indexed m)
  pub tree : find (has_id id) trees ≡ option_map (tree_in m) it
  pub block : find (has_block_id id) blocks ≡ option_map (block_in m) it

found_among : (m : Mapping) (id : List ℕ) (its : List (Indexed m)) → IsFound m id (map (tree_in m) its) (map (block_in m) its)
found_among m id [] = record { it = None; tree = refl; block = refl }
found_among m id (it ∷ its) = step (has_id id it.tree) refl (found_among m id its)
  where
    step : (b : Bool) → has_id id it.tree ≡ b → IsFound m id (map (tree_in m) its) (map (block_in m) its) → IsFound m id (it.tree ∷ map (tree_in m) its) (block_of m it.tree ∷ map (block_in m) its)
    step true is more = record { it = Some it; tree = rw is refl; block = rw (same_test m id it, is) refl }
    step false is more = record { it = more.it; tree = rw is more.tree; block = rw (same_test m id it, is) more.block }

pub found_in : (m : Mapping) (id : List ℕ) (kept : Layout BlockState) (layout : Layout Tree) → StandsFor m kept layout → IsFound m id (live_items layout) (live_items kept)
found_in m id kept layout s =
    let found = found_among m id (live_items s.indexed) in
    record {
      it = found.it;
      tree = ap (find (has_id id)) (live_trees m kept layout s) ∙ found.tree;
      block = ap (find (has_block_id id)) (live_blocks m kept layout s) ∙ found.block;
    }

pub number_same : (m : Mapping) (tree : Tree) → block_number (block_of m tree) ≡ tree.number
unfolding root_of_tree
number_same m tree = refl

numbers_same : (m : Mapping) (it : Option (Indexed m)) → option_map (λ (tree : Tree). tree.number) (option_map (tree_in m) it) ≡ option_map block_number (option_map (block_in m) it)
numbers_same m None = refl
numbers_same m (Some it) = ap Some (sym (number_same m it.tree))

pub number_found : (m : Mapping) (id : List ℕ) (trees : List Tree) (blocks : List BlockState) → IsFound m id trees blocks
    → option_map (λ (tree : Tree). tree.number) (find (has_id id) trees) ≡ option_map block_number (find (has_block_id id) blocks)
number_found m id trees blocks found =
    ap (option_map (λ (tree : Tree). tree.number)) found.tree ∙ numbers_same m found.it ∙ sym (ap (option_map block_number) found.block)

-- ---- how many objects there are

pub objects_in : (m : Mapping) (tree : Tree) → length (block_of m tree).flats ≡ length (block_objects m tree)
unfolding flats_of_tree
objects_in m tree = length-map (block_objects m tree) (flat_of m)

counted : (m : Mapping) (its : List (Indexed m)) → objects_of (map (block_in m) its) ≡ object_count m (map (tree_in m) its)
counted m [] = refl
counted m (it ∷ its) =
    sum_by-cons objects_at (block_in m it) (map (block_in m) its)
    ∙ (λ i. objects_in m it.tree i + counted m its i)
    ∙ sym (sum_by-cons (λ (tree : Tree). length (block_objects m tree)) it.tree (map (tree_in m) its))

pub objects_counted : (m : Mapping) (kept : Layout BlockState) (layout : Layout Tree) → StandsFor m kept layout → objects_of (live_items kept) ≡ object_count m (live_items layout)
objects_counted m kept layout s = ap objects_of (live_blocks m kept layout s) ∙ counted m (live_items s.indexed) ∙ sym (ap (object_count m) (live_trees m kept layout s))
