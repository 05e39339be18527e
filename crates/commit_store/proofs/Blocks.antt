-- The blocks of a commit's segments are those of the view.
use Rattle.std.proofs.Common.{◌≡◌, ℕ, suc, ◌+◌, ◌<◌, ◌≤◌, ◌^◌, Bool, List, [], ◌∷◌, ◌++◌, length, map, filter, All, Option, None, Some, refl, sym, ◌∙◌, ap, subst, arith}
use Rattle.std.specs.List.{AllByRecursion, flat_map}
use Rattle.extent_pool.specs.declared.extent.Extent.{Extent}
use Rattle.flattener.specs.Block.{BlockState}
use Rattle.flattener.specs.Fits.{AreRootsOf, SegmentFits, most_live}
use Rattle.flattener.specs.StandsFor.{Marked}
use Rattle.index_core.specs.Kept.{AreBlocks, HaveOwnIds, laid, numbers_in, segments_kept, most_made}
use Rattle.layout.specs.Ascending.{Ascend}
use Rattle.layout.specs.Layout.{is_live, item_in, live_in}
use Rattle.mapping.specs.Mapping.{Mapping}
use Rattle.segment.specs.Flat.{FlatRoot, flat_root, flats_of, roots_of}
use Rattle.segment.specs.Live.{EntryState}
use Rattle.segment_builder.specs.Blocks.{blocks_in, blocks_of, marked_by, objects_of}
use Rattle.segment_builder.specs.Entries.{flats_in}
use Rattle.segment_parts.specs.declared.columns.Columns.{Columns}
use Rattle.commit_store.specs.declared.known.KnownSegment.{KnownSegment}
use Rattle.commit_store.specs.Preparing.{HasBlocksOf, entry_or, extents_left, known_as, planned, stored_of}
use Rattle.commit_store.specs.Saying.{entries_from}
use Rattle.commit_store.proofs.Planned.{known_id_is, known_one}

-- ---- layouts

numbers_by : (entries : List EntryState) → flat_map numbers_in (segments_kept entries) ≡ flat_map (λ (items : List (Marked BlockState)). map (λ (block : Marked BlockState). block.item.root.number) items) (map blocks_in entries)
numbers_by [] = refl
numbers_by (entry ∷ entries) = ap (λ (rest : List ℕ). map (λ (block : Marked BlockState). block.item.root.number) (blocks_in entry) ++ rest) (numbers_by entries)

live_by : (entries : List EntryState) → flat_map live_in (segments_kept entries) ≡ flat_map (λ (items : List (Marked BlockState)). map item_in (filter is_live items)) (map blocks_in entries)
live_by [] = refl
live_by (entry ∷ entries) = ap (λ (rest : List BlockState). map item_in (filter is_live (blocks_in entry)) ++ rest) (live_by entries)

-- entries with the same blocks are blocks as a whole where the others are
pub same_blocks : (ones others : List EntryState) (made count next : ℕ) → map blocks_in ones ≡ map blocks_in others → count < most_made → AreBlocks (laid others [] made) next
    → AreBlocks (laid ones [] count) next
same_blocks ones others made count next same few are =
    let numbers : flat_map numbers_in (segments_kept others) ≡ flat_map numbers_in (segments_kept ones)
    = numbers_by others ∙ ap (flat_map (λ (items : List (Marked BlockState)). map (λ (block : Marked BlockState). block.item.root.number) items)) (sym same) ∙ sym (numbers_by ones) in
    let live : flat_map live_in (segments_kept others) ≡ flat_map live_in (segments_kept ones)
    = live_by others ∙ ap (flat_map (λ (items : List (Marked BlockState)). map item_in (filter is_live items))) (sym same) ∙ sym (live_by ones) in
    record {
      ascending = subst (λ (it : List ℕ). Ascend 0 (it ++ []) next) numbers are.ascending;
      ids = subst (λ (it : List BlockState). HaveOwnIds (it ++ [])) live are.ids;
      few = subst (λ (it : List BlockState). objects_of (it ++ []) ≤ most_live) live are.few;
      buffer = omega arith;
      made = few;
    }

-- ---- one segment

-- laws of segments that fit a mapping
pub record FitLaws : Type 0 where
  pub flats : (m : Mapping) (columns : Columns) → SegmentFits m columns → flats_in (blocks_of columns) ≡ flats_of columns
  pub same : (m : Mapping) (columns : Columns) → SegmentFits m columns → map (λ (block : BlockState). block.root) (blocks_of columns) ≡ roots_of columns

-- what has the blocks of a segment that fits, and fits some mapping, fits that one too
pub other_fits : FitLaws → (m n : Mapping) (one other : Columns) → SegmentFits m one → SegmentFits n other → blocks_of one ≡ blocks_of other → SegmentFits m other
other_fits laws m n one other fits others same =
    let flats : flats_of one ≡ flats_of other = sym (laws.flats m one fits) ∙ ap flats_in same ∙ laws.flats n other others in
    let roots : roots_of one ≡ roots_of other = sym (laws.same m one fits) ∙ ap (map (λ (block : BlockState). block.root)) same ∙ laws.same n other others in
    record {
      blocks = fits.blocks;
      flats = sym flats ∙ fits.flats;
      roots = subst (λ (it : List FlatRoot). AreRootsOf m it fits.blocks) roots fits.roots;
    }

length-map : {A B : Type 0} (f : A → B) (xs : List A) → length (map f xs) ≡ length xs
length-map f [] = refl
length-map f (x ∷ xs) = ap suc (length-map f xs)

pub same_roots : FitLaws → (m n : Mapping) (one other : Columns) → SegmentFits m one → SegmentFits n other → blocks_of one ≡ blocks_of other → length one.roots ≡ length other.roots
same_roots laws m n one other fits others same =
    let roots : roots_of one ≡ roots_of other = sym (laws.same m one fits) ∙ ap (map (λ (block : BlockState). block.root)) same ∙ laws.same n other others in
    sym (length-map flat_root one.roots) ∙ ap length roots ∙ length-map flat_root other.roots

-- ---- the segments of a commit

pub planned_blocks : (known : List KnownSegment) (view : List EntryState) (extents : List Extent) (id : ℕ) → AllByRecursion (λ (entry : EntryState). AllByRecursion (HasBlocksOf entry) known) view
    → map blocks_in (entries_from id (map stored_of (planned known view extents))) ≡ map blocks_in view
planned_blocks known [] extents id blocks = refl
planned_blocks known (entry ∷ view) extents id blocks =
    ap (λ (it : List BlockState). marked_by it entry.live.roots ∷ map blocks_in (entries_from (id + 1) (map stored_of (planned known view (extents_left (known_as known entry.id) extents)))))
    (same (known_as known entry.id) refl)
    ∙ ap (λ (rest : List (List (Marked BlockState))). blocks_in entry ∷ rest) (planned_blocks known view (extents_left (known_as known entry.id) extents) (id + 1) blocks.1)
  where
    same : (own : Option KnownSegment) → known_as known entry.id ≡ own → blocks_of (entry_or entry own).columns ≡ blocks_of entry.columns
    same None is = refl
    same (Some own) is = sym (known_one (HasBlocksOf entry) known entry.id own blocks.0 is (sym (known_id_is known entry.id own is)))
