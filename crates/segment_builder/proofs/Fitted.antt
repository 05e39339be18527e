-- A segment of blocks that fit a mapping fits it.
use Rattle.std.proofs.Common.{◌≡◌, List, [], ◌∷◌, ◌++◌, map, refl, sym, ap, subst, ◌∙◌}
use Rattle.std.specs.List.{All, AllByRecursion, flat_map}
use Rattle.flattener.specs.Block.{BlockState}
use Rattle.flattener.specs.Fits.{BlockFits, SegmentFits, IsRootOf, AreRootsOf}
use Rattle.mapping.specs.Mapping.{Mapping}
use Rattle.segment.specs.Flat.{FlatDocument, FlatRoot, flats_of, roots_of}
use Rattle.segment_parts.specs.declared.columns.Columns.{Columns}
use Rattle.segment_builder.proofs.Shown.{each_by, each_then}

roots_in_order : (m : Mapping) (blocks : List BlockState) → AllByRecursion (λ (block : BlockState). IsRootOf m block.root block.flats) blocks
    → AreRootsOf m (map (λ (block : BlockState). block.root) blocks) (map (λ (block : BlockState). block.flats) blocks)
roots_in_order m [] all = tt
roots_in_order m (block ∷ blocks) all = (all.0, roots_in_order m blocks all.1)

joined : (blocks : List BlockState) → flat_map (λ (block : BlockState). block.flats) blocks ≡ flat_map (λ (flats : List FlatDocument). flats) (map (λ (block : BlockState). block.flats) blocks)
joined [] = refl
joined (block ∷ blocks) = ap (λ rest. block.flats ++ rest) (joined blocks)

pub fitted_by : (m : Mapping) (columns : Columns) (blocks : List BlockState) → AllByRecursion (λ (block : BlockState). IsRootOf m block.root block.flats) blocks
    → flats_of columns ≡ flat_map (λ (block : BlockState). block.flats) blocks → roots_of columns ≡ map (λ (block : BlockState). block.root) blocks → SegmentFits m columns
fitted_by m columns blocks all flats roots = record {
  blocks = map (λ (block : BlockState). block.flats) blocks;
  flats = flats ∙ joined blocks;
  roots = subst (λ (rs : List FlatRoot). AreRootsOf m rs (map (λ (block : BlockState). block.flats) blocks)) (sym roots) (roots_in_order m blocks all);
}

pub all_roots : (m : Mapping) (blocks : List BlockState) → ((block : BlockState) → BlockFits m block → IsRootOf m block.root block.flats) → All (BlockFits m) blocks → AllByRecursion (λ (block : BlockState). IsRootOf m block.root block.flats) blocks
all_roots m blocks law all = each_then (BlockFits m) (λ (block : BlockState). IsRootOf m block.root block.flats) law blocks (each_by (BlockFits m) blocks all)

pub fitted : (m : Mapping) (columns : Columns) (blocks : List BlockState) → ((block : BlockState) → BlockFits m block → IsRootOf m block.root block.flats) → All (BlockFits m) blocks
    → flats_of columns ≡ flat_map (λ (block : BlockState). block.flats) blocks → roots_of columns ≡ map (λ (block : BlockState). block.root) blocks → SegmentFits m columns
fitted m columns blocks law all flats roots = fitted_by m columns blocks (all_roots m blocks law all) flats roots
