-- How long the texts of a commit are: those of the segments that are new, and its record.
use Rattle.std.proofs.Common.{◌≡◌, ℕ, ◌+◌, ◌*◌, ◌==◌, Bool, true, false, not, ◌||◌, cond, List, [], ◌∷◌, ◌++◌, length, map, filter, sum_by, count_by, Option, None, Some, is_some, refl, sym, ap, subst, ◌∙◌, arith}
use Rattle.std.specs.List.{AllByRecursion, AllZip, cons_option, flat_map, list_any}
use Rattle.std.proofs.lemmas.List.{length-map}
use Rattle.std.proofs.lemmas.List.Sums.{sum_by-cons}
use Rattle.commit_store.specs.declared.known.KnownSegment.{KnownSegment}
use Rattle.commit_store.specs.Preparing.{has_id, known_as, new_sizes, size_of_record, size_unless}
use Rattle.commit_store.specs.Preparing as store
use Rattle.extent_pool.specs.Placing.{NamedExtent}
use Rattle.flattener.specs.Block.{BlockState, flats_of_tree, root_of_tree}
use Rattle.flattener.specs.Fits.{SegmentFits}
use Rattle.index_core.specs.Kept.{segment_kept, segments_kept}
use Rattle.layout.proofs.Images.{dead_count_as}
use Rattle.layout.specs.As.{marked_as, segment_as}
use Rattle.layout.specs.Layout.{Marked, SegmentOf, dead_count, is_live, item_in}
use Rattle.machine.specs.State.{State}
use Rattle.machine.specs.Storing.{IsSizeOf, body_size, is_named, record_size, row_size}
use Rattle.mapping.specs.Mapping.{Mapping}
use Rattle.segment.specs.Flat.{FlatDocument, FlatRoot, flat_root, flats_of, roots_of}
use Rattle.segment.specs.Live.{EntryState}
use Rattle.segment_builder.specs.Blocks.{blocks_in, blocks_of, marked_by}
use Rattle.segment_builder.specs.Entries.{flats_in}
use Rattle.segment_parts.specs.Text.{segment_text}
use Rattle.segment_parts.specs.declared.columns.Columns.{Columns}
use Rattle.store_compact.specs.Compacting.{named_of}
use Rattle.tree_objects.specs.Tree.{Tree}
use Rattle.index_trees.specs.Faithful.{Indexed, block_in, tree_in}
use Rattle.index_trees.specs.Given.{AreWhole, IsWhole}

-- laws of segments that fit a mapping
pub record FitLaws : Type 0 where
  pub flats : (m : Mapping) (columns : Columns) → SegmentFits m columns → flats_in (blocks_of columns) ≡ flats_of columns
  pub same : (m : Mapping) (columns : Columns) → SegmentFits m columns → map (λ (block : BlockState). block.root) (blocks_of columns) ≡ roots_of columns

-- ---- the blocks of an entry

items_are : (blocks : List BlockState) (marks : List Bool) → length marks ≡ length blocks → map item_in (marked_by blocks marks) ≡ blocks
items_are [] marks long = refl
items_are (block ∷ blocks) [] long = absurd (omega (arith, long))
items_are (block ∷ blocks) (mark ∷ marks) long = ap (λ (rest : List BlockState). block ∷ rest) (items_are blocks marks (omega (arith, long)))

abbrev mark_in : {A : Type 0} → Marked A → Bool
mark_in {A} marked = marked.live

marks_are : (blocks : List BlockState) (marks : List Bool) → length marks ≡ length blocks → map mark_in (marked_by blocks marks) ≡ marks
marks_are [] [] long = refl
marks_are [] (mark ∷ marks) long = absurd (omega (arith, long))
marks_are (block ∷ blocks) [] long = absurd (omega (arith, long))
marks_are (block ∷ blocks) (mark ∷ marks) long = ap (λ (rest : List Bool). mark ∷ rest) (marks_are blocks marks (omega (arith, long)))

-- there is a mark for each block
marks_long : FitLaws → (m : Mapping) (entry : EntryState) → SegmentFits m entry.columns → IsWhole entry → length entry.live.roots ≡ length (blocks_of entry.columns)
marks_long laws m entry fits whole =
    whole.live.roots
    ∙ sym (length-map entry.columns.roots flat_root)
    ∙ ap length (sym (laws.same m entry.columns fits))
    ∙ length-map (blocks_of entry.columns) (λ (block : BlockState). block.root)

-- ---- the size of a segment

flats_same : (m : Mapping) (items : List (Marked (Indexed m)))
    → flats_in (map item_in (map (marked_as (block_in m)) items)) ≡ flat_map (λ (tree : Marked Tree). flats_of_tree m tree.item) (map (marked_as (tree_in m)) items)
flats_same m [] = refl
flats_same m (it ∷ items) = ap (λ (rest : List FlatDocument). flats_of_tree m it.item.tree ++ rest) (flats_same m items)

roots_same : (m : Mapping) (items : List (Marked (Indexed m)))
    → map (λ (block : BlockState). block.root) (map item_in (map (marked_as (block_in m)) items)) ≡ map (λ (tree : Marked Tree). root_of_tree m tree.item) (map (marked_as (tree_in m)) items)
roots_same m [] = refl
roots_same m (it ∷ items) = ap (λ (rest : List FlatRoot). root_of_tree m it.item.tree ∷ rest) (roots_same m items)

-- an entry whose blocks are those of trees is written in as many bytes as its text has
pub size_of_entry : FitLaws → (m : Mapping) (entry : EntryState) (segment : SegmentOf (Indexed m)) → SegmentFits m entry.columns → IsWhole entry
    → blocks_in entry ≡ map (marked_as (block_in m)) segment.items → IsSizeOf m (segment_as (tree_in m) segment) (length (segment_text entry.columns))
size_of_entry laws m entry segment fits whole blocks =
    let items : blocks_of entry.columns ≡ map item_in (map (marked_as (block_in m)) segment.items)
    = sym (items_are (blocks_of entry.columns) entry.live.roots (marks_long laws m entry fits whole)) ∙ ap (map item_in) blocks in
    record {
      columns = entry.columns;
      agree = whole.agree;
      flats = sym (laws.flats m entry.columns fits) ∙ ap flats_in items ∙ flats_same m segment.items;
      roots = sym (laws.same m entry.columns fits) ∙ ap (map (λ (block : BlockState). block.root)) items ∙ roots_same m segment.items;
      long = refl;
    }

-- ---- those that are new

-- a segment is named where the store knows it under its id
named_known : (known : List KnownSegment) (id : ℕ) → list_any (λ (it : NamedExtent). it.id == id) (map named_of known) ≡ is_some (known_as known id)
named_known [] id = refl
named_known (it ∷ known) id = by (has_id id it) (named_known known id)
  where
    by : (b : Bool) → list_any (λ (it : NamedExtent). it.id == id) (map named_of known) ≡ is_some (known_as known id)
        → (b || list_any (λ (it : NamedExtent). it.id == id) (map named_of known)) ≡ is_some (cond b (Some it) (known_as known id))
    by true more = refl
    by false more = more

abbrev is_new : List KnownSegment → SegmentOf Tree → Bool
is_new known segment = not (is_named (map named_of known) segment)

pub sizes_of_entries : FitLaws → (m : Mapping) (known : List KnownSegment) (entries : List EntryState) (segments : List (SegmentOf (Indexed m)))
    → AllByRecursion (λ (entry : EntryState). SegmentFits m entry.columns) entries → AreWhole entries → segments_kept entries ≡ map (segment_as (block_in m)) segments
    → AllZip (IsSizeOf m) (filter (is_new known) (map (segment_as (tree_in m)) segments)) (new_sizes known entries)
sizes_of_entries laws m known [] [] fits whole same = tt
sizes_of_entries laws m known [] (segment ∷ segments) fits whole same = absurd (cc)
sizes_of_entries laws m known (entry ∷ entries) [] fits whole same = absurd (cc)
sizes_of_entries laws m known (entry ∷ entries) (segment ∷ segments) fits whole same =
    let first : segment_kept entry ≡ segment_as (block_in m) segment = cc in
    let rest : segments_kept entries ≡ map (segment_as (block_in m)) segments = cc in
    let id : entry.id ≡ segment.id = ap (λ (it : SegmentOf BlockState). it.id) first in
    let named : is_named (map named_of known) (segment_as (tree_in m) segment) ≡ is_some (known_as known entry.id)
    = ap (λ (n : ℕ). list_any (λ (it : NamedExtent). it.id == n) (map named_of known)) (sym id) ∙ named_known known entry.id in
    subst (λ (b : Bool). AllZip (IsSizeOf m) (cond (not b) (segment_as (tree_in m) segment ∷ filter (is_new known) (map (segment_as (tree_in m)) segments)) (filter (is_new known) (map (segment_as (tree_in m)) segments))) (new_sizes known (entry ∷ entries)))
    (sym named)
    (by (known_as known entry.id) (size_of_entry laws m entry segment fits.0 whole.0 (ap (λ (it : SegmentOf BlockState). it.items) first))
    (sizes_of_entries laws m known entries segments fits.1 whole.1 rest))
  where
    by : (own : Option KnownSegment) → IsSizeOf m (segment_as (tree_in m) segment) (length (segment_text entry.columns))
        → AllZip (IsSizeOf m) (filter (is_new known) (map (segment_as (tree_in m)) segments)) (new_sizes known entries)
        → AllZip (IsSizeOf m) (cond (not (is_some own)) (segment_as (tree_in m) segment ∷ filter (is_new known) (map (segment_as (tree_in m)) segments)) (filter (is_new known) (map (segment_as (tree_in m)) segments)))
        (cons_option (size_unless entry own) (new_sizes known entries))
    by None size more = (size, more)
    by (Some own) size more = more

-- ---- the record

one_more : (mark : Bool) (marks : List Bool) → count_by not (mark ∷ marks) ≡ cond (not mark) 1 0 + count_by not marks
one_more mark marks = sum_by-cons (λ (it : Bool). cond (not it) 1 0) mark marks

live_and_dead : {A : Type 0} (items : List (Marked A)) → length (map item_in (filter is_live items)) + count_by not (map mark_in items) ≡ length items
live_and_dead {A} [] = refl
live_and_dead {A} (it ∷ items) = by it.live (live_and_dead items)
  where
    by : (b : Bool) → length (map item_in (filter is_live items)) + count_by not (map mark_in items) ≡ length items
        → length (map item_in (cond b (it ∷ filter is_live items) (filter is_live items))) + count_by not (b ∷ map mark_in items) ≡ length (it ∷ items)
    by true more = let e = one_more true (map mark_in items) in omega (arith, e, more)
    by false more = let e = one_more false (map mark_in items) in omega (arith, e, more)

-- how many roots of an entry are dead
dead_of_entry : FitLaws → (m : Mapping) (entry : EntryState) → SegmentFits m entry.columns → IsWhole entry → dead_count (segment_kept entry) ≡ count_by not entry.live.roots
dead_of_entry laws m entry fits whole =
    let marks : map mark_in (blocks_in entry) ≡ entry.live.roots = marks_are (blocks_of entry.columns) entry.live.roots (marks_long laws m entry fits whole) in
    let all = live_and_dead (blocks_in entry) in
    let dead : count_by not (map mark_in (blocks_in entry)) ≡ count_by not entry.live.roots = ap (count_by not) marks in
    omega (arith, all, dead)

row_of_entry : FitLaws → (m : Mapping) (entry : EntryState) (segment : SegmentOf (Indexed m)) → SegmentFits m entry.columns → IsWhole entry → segment_kept entry ≡ segment_as (block_in m) segment
    → row_size (segment_as (tree_in m) segment) ≡ store.row_size entry
row_of_entry laws m entry segment fits whole same =
    ap (λ (n : ℕ). 20 + 4 * n)
    (dead_count_as (tree_in m) segment ∙ sym (dead_count_as (block_in m) segment) ∙ ap dead_count (sym same) ∙ dead_of_entry laws m entry fits whole)

rows_of_entries : FitLaws → (m : Mapping) (entries : List EntryState) (segments : List (SegmentOf (Indexed m)))
    → AllByRecursion (λ (entry : EntryState). SegmentFits m entry.columns) entries → AreWhole entries → segments_kept entries ≡ map (segment_as (block_in m)) segments
    → sum_by row_size (map (segment_as (tree_in m)) segments) ≡ sum_by store.row_size entries
rows_of_entries laws m [] [] fits whole same = refl
rows_of_entries laws m [] (segment ∷ segments) fits whole same = absurd (cc)
rows_of_entries laws m (entry ∷ entries) [] fits whole same = absurd (cc)
rows_of_entries laws m (entry ∷ entries) (segment ∷ segments) fits whole same =
    let first : segment_kept entry ≡ segment_as (block_in m) segment = cc in
    let rest : segments_kept entries ≡ map (segment_as (block_in m)) segments = cc in
    sum_by-cons row_size (segment_as (tree_in m) segment) (map (segment_as (tree_in m)) segments)
    ∙ (λ i. row_of_entry laws m entry segment fits.0 whole.0 first i + rows_of_entries laws m entries segments fits.1 whole.1 rest i)
    ∙ sym (sum_by-cons store.row_size entry entries)

three : (bodies one other : ℕ) → one ≡ other → 21 + bodies + one ≡ 21 + (bodies + other)
three bodies one other same = omega (arith, same)

pub record_of_entries : FitLaws → (m : Mapping) (entries : List EntryState) (segments : List (SegmentOf (Indexed m))) (state : State)
    → AllByRecursion (λ (entry : EntryState). SegmentFits m entry.columns) entries → AreWhole entries → segments_kept entries ≡ map (segment_as (block_in m)) segments
    → state.layout.segments ≡ map (segment_as (tree_in m)) segments → record_size m state ≡ size_of_record m entries
record_of_entries laws m entries segments state fits whole same trees =
    three (sum_by body_size m.bodies) (sum_by row_size state.layout.segments) (sum_by store.row_size entries)
    (ap (sum_by row_size) trees ∙ rows_of_entries laws m entries segments fits whole same)
