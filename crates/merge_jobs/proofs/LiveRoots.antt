-- How many roots of entries are live.
use Rattle.std.proofs.Common.{◌≡◌, ◌==◌, ◌≤◌, Bool, true, false, List, [], ◌∷◌, ◌++◌, length, map, filter, refl, ap, arith}
use Rattle.std.specs.List.{AllByRecursion, count_by}
use Rattle.std.proofs.lemmas.List.{length-append, length-map}
use Rattle.std.proofs.lemmas.List.Sums.{sum_by-cons}
use Rattle.block_bits.specs.Flags.{is_marked}
use Rattle.flattener.specs.Block.{BlockState}
use Rattle.layout.proofs.Goes.{counted, split}
use Rattle.layout.proofs.Merging.{all_both}
use Rattle.layout.specs.Layout.{is_live, item_in}
use Rattle.segment.specs.Flat.{FlatDocument, FlatRoot, flat_root, flats_of, roots_of}
use Rattle.segment.specs.Live.{EntryState, IsLiveOver}
use Rattle.segment_parts.specs.declared.columns.Columns.{Columns}
use Rattle.segment_builder.specs.Blocks.{block_objects, blocks_of, cut_from, live_blocks, marked_by, objects_of}
use Rattle.merge_jobs.specs.Job.{live_in_all}

marked_count : (blocks : List BlockState) (marks : List Bool) → length blocks ≡ length marks → count_by is_marked marks ≡ length (map item_in (filter is_live (marked_by blocks marks)))
marked_count [] [] long = refl
marked_count [] (mark ∷ marks) long = absurd (omega (arith, long))
marked_count (block ∷ blocks) [] long = absurd (omega (arith, long))
marked_count (block ∷ blocks) (true ∷ marks) long = let rest = marked_count blocks marks (omega (arith, long)) in omega (arith, rest, counted is_marked true marks)
marked_count (block ∷ blocks) (false ∷ marks) long = let rest = marked_count blocks marks (omega (arith, long)) in omega (arith, rest, counted is_marked false marks)

pub live_count : (entry : EntryState) → map (λ (block : BlockState). block.root) (blocks_of entry.columns) ≡ roots_of entry.columns → IsLiveOver entry.columns entry.live → count_by is_marked entry.live.roots ≡ length (live_blocks entry)
live_count entry roots over =
    marked_count (blocks_of entry.columns) entry.live.roots
    (omega (arith, ap length roots, length-map (blocks_of entry.columns) (λ (block : BlockState). block.root), length-map entry.columns.roots flat_root, over.roots))

-- ---- each block has an object

abbrev HasObject : BlockState → Type 0
HasObject block = 1 ≤ length block.flats

cut_have : (front flats : List FlatDocument) (roots : List FlatRoot) → AllByRecursion HasObject (cut_from front flats roots)
cut_have front [] roots = tt
cut_have front (flat ∷ flats) [] = tt
cut_have front (flat ∷ flats) (root ∷ roots) =
    split (flat.scope == 0)
    (λ is. rw is (omega (arith, length-append front (flat ∷ [])), cut_have [] flats roots))
    (λ isnt. rw isnt (cut_have (front ++ flat ∷ []) flats (root ∷ roots)))

blocks_have : (columns : Columns) → AllByRecursion HasObject (blocks_of columns)
unfolding blocks_of
blocks_have columns = cut_have [] (flats_of columns) (roots_of columns)

live_have : (blocks : List BlockState) (marks : List Bool) → AllByRecursion HasObject blocks → AllByRecursion HasObject (map item_in (filter is_live (marked_by blocks marks)))
live_have [] marks all = tt
live_have (block ∷ blocks) [] all = tt
live_have (block ∷ blocks) (true ∷ marks) all = (all.0, live_have blocks marks all.1)
live_have (block ∷ blocks) (false ∷ marks) all = live_have blocks marks all.1

all_have : (entries : List EntryState) → AllByRecursion HasObject (live_in_all entries)
all_have [] = tt
all_have (entry ∷ entries) = all_both HasObject (live_blocks entry) (live_in_all entries) (live_have (blocks_of entry.columns) entry.live.roots (blocks_have entry.columns)) (all_have entries)

no_more : (blocks : List BlockState) → AllByRecursion HasObject blocks → length blocks ≤ objects_of blocks
no_more [] all = omega arith
no_more (block ∷ blocks) all = omega (arith, all.0, no_more blocks all.1, sum_by-cons block_objects block blocks)

-- no more blocks than objects
pub few_live : (entries : List EntryState) → length (live_in_all entries) ≤ objects_of (live_in_all entries)
few_live entries = no_more (live_in_all entries) (all_have entries)
