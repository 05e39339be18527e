-- Roots that are seen as ones that fit can be stored.
use Rattle.std.proofs.Common.{◌≡◌, List, [], ◌∷◌, length, map, refl, sym, ap, subst, ◌∙◌, arith, map-id}
use Rattle.std.proofs.lemmas.List.{length-map}
use Rattle.std.proofs.lemmas.List.Elements.{All-from_recursion}
use Rattle.flattener.specs.Block.{BlockState}
use Rattle.flattener.specs.Seen.{block_seen, root_seen}
use Rattle.flattener.specs.declared.document.Block.{Block}
use Rattle.segment.specs.Flat.{FlatRoot}
use Rattle.stored_sources.specs.Stands.{AreRoots, IsJoin, IsRoot}
use Rattle.stored_sources.specs.declared.root.Root.{Root}
use Rattle.segment_builder.specs.Roots.{FitsRoot, FitRoots}
use Rattle.segment_builder.proofs.Among.{each_along}

root_fits : (root : Root) (own : FlatRoot) → root_seen root ≡ own → FitsRoot own → IsRoot root
root_fits root own same fits = record {
  id = omega (arith, ap (λ (r : FlatRoot). length r.id) same, fits.id);
  number = omega (arith, ap (λ (r : FlatRoot). r.number) same, fits.number);
  generation = omega (arith, ap (λ (r : FlatRoot). r.generation) same, fits.generation);
  source = omega (arith, ap (λ (r : FlatRoot). length r.source) same, fits.source);
  join = subst IsJoin (sym (ap (λ (r : FlatRoot). r.join) same)) fits.join;
}

pub roots_fit : (roots : List Root) (own : List FlatRoot) → map root_seen roots ≡ own → FitRoots own → AreRoots roots
roots_fit roots own same fit = record {
  fewer = omega (arith, ap length same, length-map roots root_seen, fit.fewer);
  each = All-from_recursion IsRoot roots (each_along root_seen (λ (r : FlatRoot). r) FitsRoot IsRoot (λ root other both fits. root_fits root other both fits) roots own (same ∙ sym (map-id own)) fit.each);
}

pub roots_seen : (blocks : List Block) → map root_seen (map (λ (block : Block). block.root) blocks) ≡ map (λ (block : BlockState). block.root) (map block_seen blocks)
roots_seen [] = refl
roots_seen (block ∷ blocks) = ap (λ (rest : List FlatRoot). root_seen block.root ∷ rest) (roots_seen blocks)
