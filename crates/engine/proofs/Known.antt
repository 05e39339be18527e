-- What a store knows of an index: from command to command, and once a store was opened.
use Rattle.std.proofs.Common.{◌≡◌, ◌<◌, ◌≤◌, ◌++◌, ℕ, List, [], ◌∷◌, map, All, Option, None, Some, sym, ap, subst, ◌∙◌, arith}
use Rattle.std.proofs.lemmas.List.Elements.{All-from_recursion, All-nil, All-same, All-weaker, recursion_from_All}
use Rattle.std.specs.List.{AllByRecursion, flat_map}
use Rattle.commit_store.specs.declared.known.KnownSegment.{KnownSegment}
use Rattle.commit_store.specs.Known.{StoreState}
use Rattle.commit_store.specs.Preparing.{IsCommittable}
use Rattle.commit_store.specs.Preparing as preparing
use Rattle.commit_store.specs.Saying.{HasSource, HaveSources}
use Rattle.flattener.specs.Block.{BlockState}
use Rattle.flattener.specs.Fits.{BlockFits, EntryFits, SegmentFits, ViewFits}
use Rattle.index_core.specs.Kept.{AreBlocks, IndexState, laid, last_number, layout_kept, made_by, segments_kept}
use Rattle.layout.proofs.Merging.{all_both, all_weaker}
use Rattle.layout.specs.Layout.{Layout, item_in}
use Rattle.layout_ids.specs.Ids.{HaveGivenIds, KeepsItems}
use Rattle.layout_ids.specs.Items.{AllItems, items_in}
use Rattle.mapping.specs.Mapping.{Mapping}
use Rattle.point_in_time.specs.Points.{KeptPoint, KeptPoints, no_points}
use Rattle.segment.specs.Live.{EntryState}
use Rattle.segment_builder.specs.Blocks.{blocks_in, blocks_of}
use Rattle.store_commands.specs.Commands.{AreKnown, HasBlocksOf}
use Rattle.store_commands.specs.Ready.{HasItems}
use Rattle.store_commands.proofs.Known.{known_on}
use Rattle.store_commands.proofs.Sealed.{HaveRoots, have_items}
use Rattle.engine.specs.Found.{IsFittingUnder}
use Rattle.engine.specs.Kept.{AreKeptFor, ArePointsUnder, IsIndexOf, IsUnder}
use Rattle.engine.specs.declared.ordinals.KeptOrdinals.{KeptOrdinals}

-- no id comes to stand for other blocks
pub known_stays : (before after : Layout BlockState) (known : List KnownSegment) → AreKnown before known → KeepsItems before after → AreKnown after known
known_stays before after known are keeps = known_on before after known keeps are

-- ---- once a store was opened

-- the index that is made of a view
abbrev its_index : List EntryState → ℕ → ℕ → IndexState
its_index view next objects = record { entries = view; buffer = []; made = made_by view; next = next; objects = objects; merges = []; started = 0; factor = None }

nothing_laid : AreBlocks (laid [] [] (made_by [])) 0
nothing_laid = record { ascending = omega arith; ids = λ id. omega arith; few = omega arith; buffer = omega arith; made = omega arith }

-- what is asked of an index that is made of a view
pub opened_blocks : (mapping : Option Mapping) (store : StoreState) (next : ℕ) (view : List EntryState) → IsFittingUnder mapping store next view → AreBlocks (laid view [] (made_by view)) next
opened_blocks None store next view fits =
    subst (λ (own : List EntryState). AreBlocks (laid own [] (made_by own)) next) (sym fits.1.1) (subst (λ (number : ℕ). AreBlocks (laid [] [] (made_by [])) number) (sym fits.1.0) nothing_laid)
opened_blocks (Some m) store next view fits = fits.blocks

pub opened_next : (mapping : Option Mapping) (store : StoreState) (next : ℕ) (view : List EntryState) → IsFittingUnder mapping store next view → next ≤ last_number
opened_next None store next view fits = subst (λ (number : ℕ). number ≤ last_number) (sym fits.1.0) (omega arith)
opened_next (Some m) store next view fits = fits.few

module _ (roots : HaveRoots) (m : Mapping) (store : StoreState) (next objects : ℕ) (view : List EntryState) (fits : IsCommittable store m next view) where
  abbrev Sourced : EntryState → Type 0
  Sourced entry = HaveSources entry.columns

  sourced : (entries : List EntryState) → AllByRecursion HasItems entries → AllByRecursion Sourced entries → AllByRecursion HasSource (flat_map items_in (segments_kept entries))
  sourced [] items all = tt
  sourced (entry ∷ entries) items all =
      all_both HasSource (map item_in (blocks_in entry)) (flat_map items_in (segments_kept entries))
      (subst (AllByRecursion HasSource) (sym items.0) (recursion_from_All HasSource (blocks_of entry.columns) all.0)) (sourced entries items.1 all.1)

  items_sourced : AllItems HasSource (layout_kept (its_index view next objects))
  items_sourced =
      let segments = flat_map items_in (segments_kept view) in
      All-from_recursion HasSource (segments ++ [])
      (all_both HasSource segments [] (sourced view (have_items roots m view fits.fits) (recursion_from_All Sourced view fits.sources)) tt)

  index_of : IsIndexOf m (its_index view next objects)
  index_of = record {
    fits = record {
      entries = All-weaker (EntryFits m) (λ (entry : EntryState). SegmentFits m entry.columns) (λ entry own. own.segment) view fits.fits.each;
      buffer = All-nil (BlockFits m);
    };
    values = items_sourced;
  }

  knows : (it : KnownSegment) (entries : List EntryState) → AllByRecursion HasItems entries → AllByRecursion (λ (entry : EntryState). preparing.HasBlocksOf entry it) entries
      → AllByRecursion (HasBlocksOf it) (segments_kept entries)
  knows it [] items all = tt
  knows it (entry ∷ entries) items all = ((λ same. items.0 ∙ all.0 same), knows it entries items.1 all.1)

  each_known : (known : List KnownSegment) (entries : List EntryState) → AllByRecursion (λ (entry : EntryState). AllByRecursion (preparing.HasBlocksOf entry) known) entries
      → AllByRecursion (λ (it : KnownSegment). AllByRecursion (λ (entry : EntryState). preparing.HasBlocksOf entry it) entries) known
  each_known [] entries all = tt
  each_known (it ∷ known) entries all = (
    all_weaker (λ (entry : EntryState). AllByRecursion (preparing.HasBlocksOf entry) (it ∷ known)) (λ (entry : EntryState). preparing.HasBlocksOf entry it) (λ entry own. own.0) entries all,
    each_known known entries
        (all_weaker (λ (entry : EntryState). AllByRecursion (preparing.HasBlocksOf entry) (it ∷ known)) (λ (entry : EntryState). AllByRecursion (preparing.HasBlocksOf entry) known) (λ entry own. own.1) entries all),
  )

  are_known : HaveGivenIds (laid view [] (made_by view)) → All (λ (it : KnownSegment). it.entry.id < made_by view) store.known → AreKnown (layout_kept (its_index view next objects)) store.known
  are_known given below =
      let items = have_items roots m view fits.fits in
      let each = recursion_from_All (λ (entry : EntryState). All (preparing.HasBlocksOf entry) store.known) view fits.known in
      let all = all_weaker (λ (entry : EntryState). All (preparing.HasBlocksOf entry) store.known) (λ (entry : EntryState). AllByRecursion (preparing.HasBlocksOf entry) store.known)
      (λ entry own. recursion_from_All (preparing.HasBlocksOf entry) store.known own) view each in
      record {
        given = given;
        below = below;
        blocks = All-from_recursion (λ (it : KnownSegment). All (HasBlocksOf it) (segments_kept view)) store.known
            (all_weaker (λ (it : KnownSegment). AllByRecursion (λ (entry : EntryState). preparing.HasBlocksOf entry it) view) (λ (it : KnownSegment). All (HasBlocksOf it) (segments_kept view))
            (λ it own. All-from_recursion (HasBlocksOf it) (segments_kept view) (knows it view items own)) store.known (each_known store.known view all));
      }

pub opened_under : HaveRoots → (mapping : Option Mapping) (store : StoreState) (next objects : ℕ) (view : List EntryState) (index : IndexState) → IsFittingUnder mapping store next view → index ≡ its_index view next objects
    → IsUnder mapping index
opened_under roots None store next objects view index fits is =
    ap layout_kept is ∙ ap (λ (own : List EntryState). layout_kept (its_index own next objects)) fits.1.1
opened_under roots (Some m) store next objects view index fits is = subst (IsIndexOf m) (sym is) (index_of roots m store next objects view fits)

pub opened_known : HaveRoots → (mapping : Option Mapping) (store : StoreState) (next objects : ℕ) (view : List EntryState) (index : IndexState) → IsFittingUnder mapping store next view → index ≡ its_index view next objects
    → HaveGivenIds (laid view [] (made_by view)) → All (λ (it : KnownSegment). it.entry.id < made_by view) store.known → AreKnown (layout_kept index) store.known
opened_known roots None store next objects view index fits is given below =
    subst (λ (own : IndexState). AreKnown (layout_kept own) store.known) (sym is)
    (record {
      given = given;
      below = below;
      blocks = All-same (λ (it : KnownSegment). All (HasBlocksOf it) (segments_kept view)) store.known [] fits.0 (All-nil (λ (it : KnownSegment). All (HasBlocksOf it) (segments_kept view)));
    })
opened_known roots (Some m) store next objects view index fits is given below =
    subst (λ (own : IndexState). AreKnown (layout_kept own) store.known) (sym is) (are_known roots m store next objects view fits given below)

-- no point in time is open, and no ordinals are kept
pub opened_points : (mapping : Option Mapping) (points : KeptPoints) → points ≡ no_points → ArePointsUnder mapping points
opened_points None points is = is
opened_points (Some m) points is =
    subst (λ (own : KeptPoints). All (λ (point : KeptPoint). ViewFits m point.entries) own.points) (sym is) (All-nil (λ (point : KeptPoint). ViewFits m point.entries))

pub opened_ordinals : (index : IndexState) (points : KeptPoints) (own : KeptOrdinals) → own ≡ record { live = None; point = None } → AreKeptFor index points own
opened_ordinals index points own is = subst (AreKeptFor index points) (sym is) (record { live = tt; point = tt })
