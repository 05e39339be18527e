-- What holds whatever the state: the index stays one of its mapping, and what isn't done leaves all as it was, or sealed.
use Rattle.std.proofs.Common.{◌≡◌, ◌⊎◌, List, [], ◌∷◌, Option, Some, refl, ap, inl}
use Rattle.std.proofs.lemmas.List.Elements.{All-nil, All-same, All-weaker}
use Rattle.commit_store.specs.Saying.{HasSource}
use Rattle.flattener.specs.Block.{BlockState}
use Rattle.flattener.specs.Fits.{BlockFits, SegmentFits}
use Rattle.index_core.specs.Kept.{IndexFits, IndexState, layout_kept, segments_kept}
use Rattle.layout.specs.Layout.{Layout, empty_layout, sealed}
use Rattle.layout_ids.specs.Items.{items_of}
use Rattle.mapping.specs.Growth.{HasFurtherBodies}
use Rattle.mapping.specs.IsMapping.{IsMapping}
use Rattle.mapping.specs.Mapping.{Mapping}
use Rattle.segment.specs.Live.{EntryState}
use Rattle.segment_parts.specs.declared.columns.Columns.{Columns}
use Rattle.engine.specs.Answers.{IfNotDone}
use Rattle.engine.specs.Kept.{IsIndexOf}
use Rattle.engine.specs.Parts.{IndexStays, Leaves}
use Rattle.engine.specs.declared.engine.Answered.{Answered}
use Rattle.engine.specs.declared.engine.Answered.TheVariants.{Written, Refused, NoMemory}
use Rattle.engine.proofs.Items.{carries_left, carries_sealed, items_same}

-- ---- commands that weren't done, and sealing

-- what isn't done may leave this
pub if_not_done : (answered : Answered) (claim : Type 0) → claim → IfNotDone answered claim
if_not_done Written claim is = tt
if_not_done Refused claim is = is
if_not_done NoMemory claim is = is

pub stays_same : (mapping : Option Mapping) (index : IndexState) → IndexStays mapping mapping index index
stays_same mapping index = record { same = refl; next = refl; layout = inl refl }

pub leaves_same : (answered : Answered) (m : Mapping) (index : IndexState) → IsIndexOf m index → Leaves answered (Some m) (Some m) m index index
leaves_same answered m index is = record { kept = is; objects = refl; items = items_same (layout_kept index); stays = if_not_done answered (IndexStays (Some m) (Some m) index index) (stays_same (Some m) index) }

pub leaves_sealed : (answered : Answered) (m : Mapping) (index index' : IndexState) → IsIndexOf m index → IndexFits m index' → index'.next ≡ index.next → index'.objects ≡ index.objects
    → (layout_kept index' ≡ layout_kept index) ⊎ (layout_kept index' ≡ sealed (layout_kept index)) → Leaves answered (Some m) (Some m) m index index'
leaves_sealed answered m index index' is fits next objects layout =
    let carries = carries_left (layout_kept index) (layout_kept index') layout in
    record {
      kept = record { fits = fits; values = carries.values is.values };
      objects = objects;
      items = carries.items;
      stays = if_not_done answered (IndexStays (Some m) (Some m) index index') (record { same = refl; next = next; layout = layout });
    }

-- ---- a mapping that has grown

abbrev pub SegmentsFit : Type 0
SegmentsFit = (m m2 : Mapping) (columns : Columns) → IsMapping m → HasFurtherBodies m m2 → SegmentFits m columns → SegmentFits m2 columns

abbrev pub BlocksFit : Type 0
BlocksFit = (m m2 : Mapping) (block : BlockState) → IsMapping m → IsMapping m2 → HasFurtherBodies m m2 → BlockFits m block → BlockFits m2 block

index_grown : SegmentsFit → BlocksFit → (m m2 : Mapping) → IsMapping m → IsMapping m2 → HasFurtherBodies m m2 → (index : IndexState) → IndexFits m index → IndexFits m2 index
index_grown segments blocks m m2 is is2 further index fits = record {
  entries = All-weaker (λ (entry : EntryState). SegmentFits m entry.columns) (λ (entry : EntryState). SegmentFits m2 entry.columns) (λ entry. segments m m2 entry.columns is further) index.entries fits.entries;
  buffer = All-weaker (BlockFits m) (BlockFits m2) (λ block. blocks m m2 block is is2 further) index.buffer fits.buffer;
}

pub leaves_grown : SegmentsFit → BlocksFit → (m m2 : Mapping) (index index' : IndexState) → IsMapping m → IsMapping m2 → HasFurtherBodies m m2 → IsIndexOf m index → IndexFits m index'
    → index'.objects ≡ index.objects → layout_kept index' ≡ sealed (layout_kept index) → Leaves Written (Some m) (Some m2) m2 index index'
leaves_grown segments blocks m m2 index index' is is2 further index_of fits objects seals =
    let carries = carries_sealed (layout_kept index) (layout_kept index') seals in
    record {
      kept = record { fits = index_grown segments blocks m m2 is is2 further index' fits; values = carries.values index_of.values };
      objects = objects;
      items = carries.items;
      stays = tt;
    }

-- ---- an index in which nothing is kept

no_entries : (entries : List EntryState) → segments_kept entries ≡ [] → entries ≡ []
no_entries [] e = refl
no_entries (entry ∷ entries) e = absurd (cc)

pub empty_index : (m : Mapping) (index : IndexState) → layout_kept index ≡ empty_layout → IsIndexOf m index
empty_index m index e = record {
  fits = record {
    entries = All-same (λ (entry : EntryState). SegmentFits m entry.columns) index.entries [] (no_entries index.entries (ap (λ (layout : Layout BlockState). layout.segments) e)) (All-nil (λ (entry : EntryState). SegmentFits m entry.columns));
    buffer = All-same (BlockFits m) index.buffer [] (ap (λ (layout : Layout BlockState). layout.buffer) e) (All-nil (BlockFits m));
  };
  values = All-same HasSource (items_of (layout_kept index)) [] (ap items_of e) (All-nil HasSource);
}
