-- A segment that fits a mapping is its blocks, each a root with its documents.
use Rattle.std.proofs.Common.{◌≡◌, List, [], ◌∷◌, ◌++◌, map, refl, sym, ap, subst, ◌∙◌}
use Rattle.std.specs.List.{AllByRecursion, flat_map}
use Rattle.flattener.specs.Block.{BlockState}
use Rattle.flattener.specs.Fits.{AreRootsOf, IsRootOf, SegmentFits}
use Rattle.mapping.specs.Mapping.{Mapping}
use Rattle.segment.specs.Flat.{FlatDocument, FlatRoot, flats_of, roots_of}
use Rattle.segment_parts.specs.declared.columns.Columns.{Columns}
use Rattle.segment_builder.specs.Blocks.{blocks_of}
use Rattle.segment_builder.specs.Entries.{flats_in}
use Rattle.segment_builder.proofs.Cut.{blocks_again}

abbrev pub AreRootsIn : Mapping → List BlockState → Type 0
AreRootsIn m blocks = AllByRecursion (λ (block : BlockState). IsRootOf m block.root block.flats) blocks

-- roots and documents side by side
abbrev paired : List FlatRoot → List (List FlatDocument) → List BlockState
paired [] lists = []
paired (root ∷ roots) [] = []
paired (root ∷ roots) (flats ∷ lists) = record { flats = flats; root = root } ∷ paired roots lists

paired_roots : (m : Mapping) (roots : List FlatRoot) (lists : List (List FlatDocument)) → AreRootsOf m roots lists → AreRootsIn m (paired roots lists)
paired_roots m [] lists are = tt
paired_roots m (root ∷ roots) [] are = absurd are
paired_roots m (root ∷ roots) (flats ∷ lists) are = (are.0, paired_roots m roots lists are.1)

same_flats : (m : Mapping) (roots : List FlatRoot) (lists : List (List FlatDocument)) → AreRootsOf m roots lists → flat_map (λ (block : BlockState). block.flats) (paired roots lists) ≡ flat_map (λ (flats : List FlatDocument). flats) lists
same_flats m [] [] are = refl
same_flats m [] (flats ∷ lists) are = absurd are
same_flats m (root ∷ roots) [] are = absurd are
same_flats m (root ∷ roots) (flats ∷ lists) are = ap (λ (rest : List FlatDocument). flats ++ rest) (same_flats m roots lists are.1)

same_roots : (m : Mapping) (roots : List FlatRoot) (lists : List (List FlatDocument)) → AreRootsOf m roots lists → map (λ (block : BlockState). block.root) (paired roots lists) ≡ roots
same_roots m [] lists are = refl
same_roots m (root ∷ roots) [] are = absurd are
same_roots m (root ∷ roots) (flats ∷ lists) are = ap (λ (rest : List FlatRoot). root ∷ rest) (same_roots m roots lists are.1)

module _ (m : Mapping) (columns : Columns) (fits : SegmentFits m columns) where
  blocks_are : blocks_of columns ≡ paired (roots_of columns) fits.blocks
  blocks_are =
      blocks_again m columns (paired (roots_of columns) fits.blocks) (paired_roots m (roots_of columns) fits.blocks fits.roots)
      (fits.flats ∙ sym (same_flats m (roots_of columns) fits.blocks fits.roots)) (sym (same_roots m (roots_of columns) fits.blocks fits.roots))

  pub blocks_fit : AreRootsIn m (blocks_of columns)
  blocks_fit = subst (AreRootsIn m) (sym blocks_are) (paired_roots m (roots_of columns) fits.blocks fits.roots)

  pub flats_again : flats_in (blocks_of columns) ≡ flats_of columns
  flats_again = ap flats_in blocks_are ∙ same_flats m (roots_of columns) fits.blocks fits.roots ∙ sym fits.flats

  pub roots_again : map (λ (block : BlockState). block.root) (blocks_of columns) ≡ roots_of columns
  roots_again = ap (map (λ (block : BlockState). block.root)) blocks_are ∙ same_roots m (roots_of columns) fits.blocks fits.roots
