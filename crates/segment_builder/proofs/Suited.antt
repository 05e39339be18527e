-- Blocks that fit a mapping are blocks that a segment can be built of.
use Rattle.std.proofs.Common.{◌<◌, ◌≤◌, List, [], ◌∷◌, length, map, arith}
use Rattle.std.specs.List.{All, AllByRecursion}
use Rattle.std.proofs.lemmas.List.{length-map}
use Rattle.std.proofs.lemmas.List.Concat.{length-flat_map}
use Rattle.std.proofs.lemmas.List.Elements.{All-from_recursion, All-head, All-tail}
use Rattle.flattener.specs.Block.{BlockState}
use Rattle.flattener.specs.Fits.{BlockFits, IsRootOf, most_live}
use Rattle.flattener.specs.Seen.{block_seen, document_seen}
use Rattle.flattener.specs.Small.{IsSmall}
use Rattle.flattener.specs.declared.document.Block.{Block}
use Rattle.flattener.specs.declared.document.Document.{Document}
use Rattle.mapping.specs.Mapping.{Mapping}
use Rattle.segment_builder.specs.Blocks.{objects_of}
use Rattle.segment_builder.specs.Entries.{flats_in}
use Rattle.segment_builder.specs.Form.{IsFit}
use Rattle.segment_builder.specs.Given.{AreGiven, IsNumbered}
use Rattle.segment_builder.proofs.Fitted.{all_roots}
use Rattle.segment_builder.proofs.Ordered.{all_ordered}
use Rattle.segment_builder.proofs.Shown.{each_by}
use Rattle.segment_builder.proofs.Sorted.{each_append}

small_in : (m : Mapping) (blocks : List BlockState) → ((block : BlockState) → BlockFits m block → All IsSmall block.flats) → AllByRecursion (BlockFits m) blocks → AllByRecursion IsSmall (flats_in blocks)
small_in m [] law all = tt
small_in m (block ∷ blocks) law all = each_append IsSmall block.flats (flats_in blocks) (each_by IsSmall block.flats (law block all.0)) (small_in m blocks law all.1)

documents_in : (documents : List Document) → All (λ (document : Document). IsFit (document_seen document)) documents → AllByRecursion IsFit (map document_seen documents)
documents_in [] all = tt
documents_in (document ∷ documents) all =
    (All-head (λ (d : Document). IsFit (document_seen d)) document documents all, documents_in documents (All-tail (λ (d : Document). IsFit (document_seen d)) document documents all))

abbrev pub FitsAll : Block → Type 0
FitsAll block = All (λ (document : Document). IsFit (document_seen document)) block.documents.items

fit_in : (blocks : List Block) → All FitsAll blocks → AllByRecursion IsFit (flats_in (map block_seen blocks))
fit_in [] all = tt
fit_in (block ∷ blocks) all =
    each_append IsFit (map document_seen block.documents.items) (flats_in (map block_seen blocks)) (documents_in block.documents.items (All-head FitsAll block blocks all)) (fit_in blocks (All-tail FitsAll block blocks all))

pub are_given : (m : Mapping) (blocks : List Block) → ((block : BlockState) → BlockFits m block → IsRootOf m block.root block.flats) → ((block : BlockState) → BlockFits m block → All IsSmall block.flats) → IsNumbered m
    → All (BlockFits m) (map block_seen blocks) → 0 < length blocks → objects_of (map block_seen blocks) ≤ most_live → All FitsAll blocks → AreGiven m (map block_seen blocks)
are_given m blocks roots small numbered fits some few fit = record {
  some = omega (arith, some, length-map blocks block_seen);
  few = omega (arith, few, length-flat_map (λ (block : BlockState). block.flats) (map block_seen blocks));
  roots = all_roots m (map block_seen blocks) roots fits;
  ordered = all_ordered m (map block_seen blocks) fits;
  small = All-from_recursion IsSmall (flats_in (map block_seen blocks)) (small_in m (map block_seen blocks) small (each_by (BlockFits m) (map block_seen blocks) fits));
  fit = All-from_recursion IsFit (flats_in (map block_seen blocks)) (fit_in blocks fit);
  numbered = numbered;
}
