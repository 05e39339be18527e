-- The trees of many roots.
use Rattle.std.proofs.Common.{◌≡◌, ℕ, ◌<◌, List, [], ◌∷◌, length, map, get_or, drop, refl, sym, ap, subst, ◌∙◌, arith}
use Rattle.std.specs.List.{All, AllByRecursion, flat_map}
use Rattle.std.proofs.lemmas.List.{get_or-map, length-map}
use Rattle.std.proofs.lemmas.List.Elements.{All-from_recursion, All-get_or}
use Rattle.flattener.specs.Block.{BlockState, block_of, root_of_tree, tree_given}
use Rattle.flattener.specs.Fits.{AreRootsOf, BlockFits, SegmentFits}
use Rattle.mapping.specs.Mapping.{Mapping}
use Rattle.segment.specs.Flat.{FlatDocument, FlatRoot, flats_of, roots_of}
use Rattle.segment_parts.specs.declared.columns.Columns.{Columns}
use Rattle.tree_json.specs.Value.{null}
use Rattle.tree_objects.specs.Tree.{Tree}
use Rattle.store_check.specs.Held.{IsSound}
use Rattle.store_check.specs.Made.{AreBlocksOf, AreOfNoTrees, IsOfNoTree}

-- blocks of the only trees that roots may be of
pub record AreMade (m : Mapping) (roots : List FlatRoot) (blocks : List BlockState) : Type 0 where
  pub trees : List Tree
  pub sound : AllByRecursion (IsSound m) trees
  pub are : blocks ≡ map (block_of m) trees
  pub only : (others : List Tree) → AllByRecursion (IsSound m) others → roots ≡ map (root_of_tree m) others → others ≡ trees

only_none : (m : Mapping) (others : List Tree) → [] ≡ map (root_of_tree m) others → others ≡ []
only_none m [] same = refl
only_none m (other ∷ others) same = absurd (cc (same))

only_more : (m : Mapping) (root : FlatRoot) (roots : List FlatRoot) (tree : Tree) (trees others : List Tree)
    → ((other : Tree) → IsSound m other → root ≡ root_of_tree m other → other ≡ tree)
    → ((others : List Tree) → AllByRecursion (IsSound m) others → roots ≡ map (root_of_tree m) others → others ≡ trees)
    → AllByRecursion (IsSound m) others → root ∷ roots ≡ map (root_of_tree m) others → others ≡ tree ∷ trees
only_more m root roots tree trees [] one more sound same = absurd (cc (same))
only_more m root roots tree trees (other ∷ others) one more sound same =
    let first : root ≡ root_of_tree m other = ap (λ (it : List FlatRoot). get_or it 0 root) same in
    let rest : roots ≡ map (root_of_tree m) others = ap (λ (it : List FlatRoot). drop 1 it) same in
    ap (λ (it : Tree). it ∷ others) (one other sound.0 first) ∙ ap (λ (it : List Tree). tree ∷ it) (more others sound.1 rest)

pub are_made : (m : Mapping) (roots : List FlatRoot) (blocks : List BlockState) → AreBlocksOf m roots blocks → AreMade m roots blocks
are_made m [] [] all = record { trees = []; sound = tt; are = refl; only = λ others sound same. only_none m others same }
are_made m [] (block ∷ blocks) all = absurd all
are_made m (root ∷ roots) [] all = absurd all
are_made m (root ∷ roots) (block ∷ blocks) all =
    let rest = are_made m roots blocks all.1 in
    record {
      trees = all.0.tree ∷ rest.trees;
      sound = (all.0.sound, rest.sound);
      are = ap (λ (it : BlockState). it ∷ blocks) all.0.is ∙ ap (λ (it : List BlockState). block_of m all.0.tree ∷ it) rest.are;
      only = λ others sound same. only_more m root roots all.0.tree rest.trees others all.0.only rest.only sound same;
    }

no_tree : Tree
no_tree = tree_given [] 0 null 0

pub none_made : (m : Mapping) (roots : List FlatRoot) (at : ℕ) (root : FlatRoot) → at < length roots → root ≡ get_or roots at root → IsOfNoTree m root → AreOfNoTrees m roots
none_made m roots at root h is never trees sound same =
    let long : length roots ≡ length trees = ap length same ∙ length-map trees (root_of_tree m) in
    let h' : at < length trees = omega (arith, h, long) in
    let e : root ≡ root_of_tree m (get_or trees at no_tree) =
    is ∙ (ap (λ (it : List FlatRoot). get_or it at root) same ∙ get_or-map (root_of_tree m) trees at no_tree root h') in
    never (get_or trees at no_tree) (All-get_or (IsSound m) trees at no_tree h' (All-from_recursion (IsSound m) trees sound)) e

-- ---- what a segment is built of

fits_each : (m : Mapping) (trees : List Tree) → AllByRecursion (IsSound m) trees → AllByRecursion (BlockFits m) (map (block_of m) trees)
fits_each m [] sound = tt
fits_each m (tree ∷ trees) sound =
    (record { tree = tree; given = sound.0.given; accepted = sound.0.accepted; number = sound.0.number; is = refl }, fits_each m trees sound.1)

pub made_fit : (m : Mapping) (roots : List FlatRoot) (blocks : List BlockState) → AreMade m roots blocks → All (BlockFits m) blocks
made_fit m roots blocks are = All-from_recursion (BlockFits m) blocks (subst (AllByRecursion (BlockFits m)) (sym are.are) (fits_each m are.trees are.sound))

pub as_many : (m : Mapping) (roots : List FlatRoot) (blocks : List BlockState) → AreBlocksOf m roots blocks → length roots ≡ length blocks
as_many m [] [] all = refl
as_many m [] (block ∷ blocks) all = absurd all
as_many m (root ∷ roots) [] all = absurd all
as_many m (root ∷ roots) (block ∷ blocks) all = omega (arith, as_many m roots blocks all.1)

pub roots_kept : (m : Mapping) (trees : List Tree) → map (λ (block : BlockState). block.root) (map (block_of m) trees) ≡ map (root_of_tree m) trees
roots_kept m [] = refl
roots_kept m (tree ∷ trees) = ap (λ (it : List FlatRoot). root_of_tree m tree ∷ it) (roots_kept m trees)

some_root : (m : Mapping) (roots : List FlatRoot) (blocks : List (List FlatDocument)) → AreRootsOf m roots blocks → 0 < length (flat_map (λ (flats : List FlatDocument). flats) blocks) → 0 < length roots
some_root m [] [] are some = absurd (omega (arith, some))
some_root m [] (flats ∷ more) are some = absurd are
some_root m (root ∷ roots) blocks are some = omega arith

pub some_roots : (m : Mapping) (columns : Columns) → SegmentFits m columns → 0 < length (flats_of columns) → 0 < length (roots_of columns)
some_roots m columns fits some =
    some_root m (roots_of columns) fits.blocks fits.roots (subst (λ (it : List FlatDocument). 0 < length it) fits.flats some)
