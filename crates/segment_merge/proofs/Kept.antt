-- Live blocks: what is so of all blocks is so of them, and what a segment is made of they are.
use Rattle.std.proofs.Common.{◌≡◌, ℕ, ◌<◌, ◌≤◌, Bool, true, false, List, [], ◌∷◌, ◌++◌, length, map, filter, get_or, sym, subst, arith}
use Rattle.std.specs.List.{All, AllByRecursion, flat_map, range_with_len}
use Rattle.std.proofs.lemmas.List.Concat.{length-flat_map}
use Rattle.std.proofs.lemmas.List.Elements.{All-from_recursion, All-head, All-tail}
use Rattle.flattener.specs.Block.{BlockState}
use Rattle.flattener.specs.Fits.{IsRootOf, SegmentFits, most_live}
use Rattle.flattener.specs.Small.{IsSmall}
use Rattle.layout.specs.Layout.{is_live, item_in}
use Rattle.mapping.specs.Mapping.{Mapping}
use Rattle.segment.specs.Agree.{AreColumns}
use Rattle.segment.specs.Flat.{FlatDocument, flat_of, flats_of}
use Rattle.segment.specs.Live.{EntryState}
use Rattle.segment_builder.specs.Blocks.{blocks_of, live_blocks, marked_by, objects_of}
use Rattle.segment_builder.specs.Entries.{flats_in}
use Rattle.segment_builder.specs.Form.{IsFit, IsOrdered}
use Rattle.segment_builder.specs.Given.{AreGiven, IsNumbered}
use Rattle.segment_parts.specs.declared.columns.Columns.{Columns}
use Rattle.segment_merge.proofs.Carried.{fit, ordered, small}

-- ---- lists

each_append : {X : Type 0} (P : X → Type 0) (xs ys : List X) → AllByRecursion P xs → AllByRecursion P ys → AllByRecursion P (xs ++ ys)
each_append P [] ys one two = two
each_append P (x ∷ xs) ys one two = (one.0, each_append P xs ys one.1 two)

each_left : {X : Type 0} (P : X → Type 0) (xs ys : List X) → AllByRecursion P (xs ++ ys) → AllByRecursion P xs
each_left P [] ys all = tt
each_left P (x ∷ xs) ys all = (all.0, each_left P xs ys all.1)

each_right : {X : Type 0} (P : X → Type 0) (xs ys : List X) → AllByRecursion P (xs ++ ys) → AllByRecursion P ys
each_right P [] ys all = all
each_right P (x ∷ xs) ys all = each_right P xs ys all.1

-- ---- the blocks that are live

each_live : (P : BlockState → Type 0) (blocks : List BlockState) (marks : List Bool) → AllByRecursion P blocks → AllByRecursion P (map item_in (filter is_live (marked_by blocks marks)))
each_live P [] marks all = tt
each_live P (block ∷ blocks) [] all = tt
each_live P (block ∷ blocks) (true ∷ marks) all = (all.0, each_live P blocks marks all.1)
each_live P (block ∷ blocks) (false ∷ marks) all = each_live P blocks marks all.1

each_block : (Q : FlatDocument → Type 0) (blocks : List BlockState) → AllByRecursion Q (flats_in blocks) → AllByRecursion (λ (block : BlockState). AllByRecursion Q block.flats) blocks
each_block Q [] all = tt
each_block Q (block ∷ blocks) all = (each_left Q block.flats (flats_in blocks) all, each_block Q blocks (each_right Q block.flats (flats_in blocks) all))

each_flat : (Q : FlatDocument → Type 0) (blocks : List BlockState) → AllByRecursion (λ (block : BlockState). AllByRecursion Q block.flats) blocks → AllByRecursion Q (flats_in blocks)
each_flat Q [] all = tt
each_flat Q (block ∷ blocks) all = each_append Q block.flats (flats_in blocks) all.0 (each_flat Q blocks all.1)

each_entry : (P : BlockState → Type 0) (entries : List EntryState) → All (λ (entry : EntryState). AllByRecursion P (blocks_of entry.columns)) entries → AllByRecursion P (flat_map live_blocks entries)
each_entry P [] all = tt
each_entry P (entry ∷ entries) all =
    let Own : EntryState → Type 0 = λ (e : EntryState). AllByRecursion P (blocks_of e.columns) in
    each_append P (live_blocks entry) (flat_map live_blocks entries) (each_live P (blocks_of entry.columns) entry.live.roots (All-head Own entry entries all)) (each_entry P entries (All-tail Own entry entries all))

-- ---- documents that columns say

pub each_document : (Q : FlatDocument → Type 0) (columns : Columns) → ((doc : ℕ) → Q (flat_of columns doc)) → AllByRecursion Q (flats_of columns)
each_document Q columns all = from (range_with_len 0 columns.documents)
  where
    from : (docs : List ℕ) → AllByRecursion Q (map (flat_of columns) docs)
    from [] = tt
    from (doc ∷ docs) = (all doc, from docs)

each_said : (Q : FlatDocument → Type 0) (columns : Columns) → flats_in (blocks_of columns) ≡ flats_of columns → ((doc : ℕ) → Q (flat_of columns doc)) → AllByRecursion (λ (block : BlockState). AllByRecursion Q block.flats) (blocks_of columns)
each_said Q columns same all = each_block Q (blocks_of columns) (subst (AllByRecursion Q) (sym same) (each_document Q columns all))

-- ---- live blocks of entries can be made into a segment

abbrev pub AreFit : Mapping → List EntryState → Type 0
AreFit m entries = All (λ (entry : EntryState). SegmentFits m entry.columns) entries

module _ (entries : List EntryState) (agree : All (λ (entry : EntryState). AreColumns entry.columns) entries)
    (flats : (m : Mapping) (columns : Columns) → SegmentFits m columns → flats_in (blocks_of columns) ≡ flats_of columns)
    (roots : (m : Mapping) (columns : Columns) → SegmentFits m columns → AllByRecursion (λ (block : BlockState). IsRootOf m block.root block.flats) (blocks_of columns)) where
  pub all_roots : (m : Mapping) → AreFit m entries → AllByRecursion (λ (block : BlockState). IsRootOf m block.root block.flats) (flat_map live_blocks entries)
  all_roots m fits = each_entry (λ (block : BlockState). IsRootOf m block.root block.flats) entries (λ k d h. roots m (get_or entries k d).columns (fits k d h))

  said : (Q : FlatDocument → Type 0) (m : Mapping) → AreFit m entries → ((columns : Columns) (doc : ℕ) → AreColumns columns → Q (flat_of columns doc)) → All Q (flats_in (flat_map live_blocks entries))
  said Q m fits all =
      All-from_recursion Q (flats_in (flat_map live_blocks entries))
      (each_flat Q (flat_map live_blocks entries)
      (each_entry (λ (block : BlockState). AllByRecursion Q block.flats) entries
      (λ k d h. each_said Q (get_or entries k d).columns (flats m (get_or entries k d).columns (fits k d h)) (λ doc. all (get_or entries k d).columns doc (agree k d h)))))

  pub given : (m : Mapping) → IsNumbered m → AreFit m entries → objects_of (flat_map live_blocks entries) ≤ most_live → 0 < length (flat_map live_blocks entries) → AreGiven m (flat_map live_blocks entries)
  given m numbered fits few some = record {
    some = some;
    few = omega (arith, few, length-flat_map (λ (block : BlockState). block.flats) (flat_map live_blocks entries));
    roots = all_roots m fits;
    ordered = said IsOrdered m fits (λ columns doc own. ordered columns own doc);
    small = said IsSmall m fits (λ columns doc own. small columns own doc);
    fit = said IsFit m fits (λ columns doc own. fit columns own doc);
    numbered = numbered;
  }
