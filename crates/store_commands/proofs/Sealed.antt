-- The view of an index whose buffer is sealed may be committed.
use Rattle.std.proofs.Common.{◌≡◌, ℕ, suc, ◌+◌, ◌<◌, ◌≤◌, max, Bool, List, [], ◌∷◌, ◌++◌, length, map, All, refl, sym, ◌∙◌, ap, subst, arith}
use Rattle.std.specs.List.{AllByRecursion, flat_map}
use Rattle.std.proofs.lemmas.List.Elements.{All-from_recursion, recursion_from_All}
use Rattle.flattener.specs.Block.{BlockState}
use Rattle.flattener.specs.Fits.{EntryFits, SegmentFits, ViewFits, most_live}
use Rattle.index_core.specs.Kept.{AreBlocks, HaveOwnIds, IndexState, IsIndex, block_number, laid, layout_kept, made_by, numbers_in, segment_kept, segments_kept}
use Rattle.layout.proofs.Merging.{all_first, all_second, all_weaker}
use Rattle.layout.specs.Ascending.{Ascend}
use Rattle.layout.specs.Layout.{SegmentOf, item_in, live_in}
use Rattle.layout_ids.specs.Items.{items_in}
use Rattle.mapping.specs.Mapping.{Mapping}
use Rattle.segment.specs.Flat.{flat_root, roots_of}
use Rattle.segment.specs.Live.{EntryState}
use Rattle.segment_builder.specs.Blocks.{blocks_of, marked_by, objects_of}
use Rattle.segment_parts.specs.declared.columns.Columns.{Columns}
use Rattle.commit_store.specs.declared.known.KnownSegment.{KnownSegment}
use Rattle.commit_store.specs.Known.{StoreState}
use Rattle.commit_store.specs.Preparing.{IsCommittable}
use Rattle.commit_store.specs.Preparing as preparing
use Rattle.commit_store.specs.Saying.{HasSource, HaveSources}
use Rattle.store_commands.specs.Commands.{HasBlocksOf}
use Rattle.store_commands.specs.Ready.{HasItems, IsReady}

-- ---- the items of an entry are the blocks of its segment

length-map : {A B : Type 0} (f : A → B) (xs : List A) → length (map f xs) ≡ length xs
length-map f [] = refl
length-map f (x ∷ xs) = ap suc (length-map f xs)

items_marked : (blocks : List BlockState) (marks : List Bool) → length blocks ≡ length marks → map item_in (marked_by blocks marks) ≡ blocks
items_marked [] marks long = refl
items_marked (block ∷ blocks) [] long = absurd (omega (arith, long))
items_marked (block ∷ blocks) (mark ∷ marks) long = ap (λ (rest : List BlockState). block ∷ rest) (items_marked blocks marks (omega (arith, long)))

-- the roots of a segment's blocks are its roots
abbrev pub HaveRoots : Type 0
HaveRoots = (m : Mapping) (columns : Columns) → SegmentFits m columns → map (λ (block : BlockState). block.root) (blocks_of columns) ≡ roots_of columns

has_items : HaveRoots → (m : Mapping) (entry : EntryState) → EntryFits m entry → HasItems entry
has_items roots m entry fits =
    let blocks = blocks_of entry.columns in
    let long : length blocks ≡ length entry.live.roots =
    sym (length-map (λ (block : BlockState). block.root) blocks) ∙ ap length (roots m entry.columns fits.segment) ∙ length-map flat_root entry.columns.roots ∙ sym fits.live.roots in
    items_marked blocks entry.live.roots long

pub have_items : HaveRoots → (m : Mapping) (entries : List EntryState) → ViewFits m entries → AllByRecursion HasItems entries
have_items roots m entries fits = all_weaker (EntryFits m) HasItems (has_items roots m) entries (recursion_from_All (EntryFits m) entries fits.each)

-- ---- sources

abbrev HasSources : EntryState → Type 0
HasSources entry = HaveSources entry.columns

sources_of : (entries : List EntryState) → AllByRecursion HasItems entries → AllByRecursion HasSource (flat_map items_in (segments_kept entries)) → AllByRecursion HasSources entries
sources_of [] items all = tt
sources_of (entry ∷ entries) items all =
    let own = items_in (segment_kept entry) in
    let rest = flat_map items_in (segments_kept entries) in (
      All-from_recursion HasSource (blocks_of entry.columns) (subst (AllByRecursion HasSource) items.0 (all_first HasSource own rest all)),
      sources_of entries items.1 (all_second HasSource own rest all),
    )

-- ---- known segments

abbrev KnowsIn : List (SegmentOf BlockState) → KnownSegment → Type 0
KnowsIn segments known = AllByRecursion (HasBlocksOf known) segments

abbrev BlocksAsKnown : List KnownSegment → EntryState → Type 0
BlocksAsKnown known entry = All (preparing.HasBlocksOf entry) known

known_of : (known : List KnownSegment) (entries : List EntryState) → AllByRecursion HasItems entries → AllByRecursion (KnowsIn (segments_kept entries)) known → AllByRecursion (BlocksAsKnown known) entries
known_of known [] items all = tt
known_of known (entry ∷ entries) items all = (
  All-from_recursion (preparing.HasBlocksOf entry) known
      (all_weaker (KnowsIn (segments_kept (entry ∷ entries))) (preparing.HasBlocksOf entry) (λ it own same. sym items.0 ∙ own.0 same) known all),
  known_of known entries items.1 (all_weaker (KnowsIn (segments_kept (entry ∷ entries))) (KnowsIn (segments_kept entries)) (λ it own. own.1) known all),
)

-- ---- ids

abbrev Under : ℕ → SegmentOf BlockState → Type 0
Under made segment = segment.id < made

most_of : (one other bound : ℕ) → one ≤ bound → other ≤ bound → max one other ≤ bound
most_of one other bound a b = grind arith

made_under : (entries : List EntryState) (made : ℕ) → AllByRecursion (Under made) (segments_kept entries) → made_by entries ≤ made
made_under [] made under = omega arith
made_under (entry ∷ entries) made under = most_of (entry.id + 1) (made_by entries) made (omega (arith, under.0)) (made_under entries made under.1)

-- ---- the whole

blocks_laid : (index : IndexState) → index.buffer ≡ [] → AreBlocks (layout_kept index) index.next → made_by index.entries ≤ index.made → AreBlocks (laid index.entries [] (made_by index.entries)) index.next
blocks_laid index emptied are below = record {
  ascending = subst (λ (buffer : List BlockState). Ascend 0 (flat_map numbers_in (segments_kept index.entries) ++ map block_number buffer) index.next) emptied are.ascending;
  ids = subst (λ (buffer : List BlockState). HaveOwnIds (flat_map live_in (segments_kept index.entries) ++ buffer)) emptied are.ids;
  few = subst (λ (buffer : List BlockState). objects_of (flat_map live_in (segments_kept index.entries) ++ buffer) ≤ most_live) emptied are.few;
  buffer = omega arith;
  made = omega (arith, below, are.made);
}

pub committable : HaveRoots → (m : Mapping) (index : IndexState) (store : StoreState) → IsIndex index → ViewFits m index.entries → IsReady m index store → IsCommittable store m index.next index.entries
committable roots m index store is fits ready =
    let items = have_items roots m index.entries fits in
    let segments = segments_kept index.entries in
    let sources = all_first HasSource (flat_map items_in segments) index.buffer (recursion_from_All HasSource (flat_map items_in segments ++ index.buffer) ready.sources) in
    let known : AllByRecursion (KnowsIn segments) store.known =
    all_weaker (λ (it : KnownSegment). All (HasBlocksOf it) segments) (KnowsIn segments) (λ it own. recursion_from_All (HasBlocksOf it) segments own) store.known
    (recursion_from_All (λ (it : KnownSegment). All (HasBlocksOf it) segments) store.known ready.known.blocks) in
    record {
      read = ready.read;
      fits = fits;
      sources = All-from_recursion HasSources index.entries (sources_of index.entries items sources);
      blocks = blocks_laid index ready.emptied is.blocks (made_under index.entries index.made ready.known.given);
      few = is.next;
      known = All-from_recursion (BlocksAsKnown store.known) index.entries (known_of store.known index.entries items known);
    }
