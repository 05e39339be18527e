-- A view of entries that fit a mapping fits it.
use Rattle.std.proofs.Common.{◌≡◌, ◌≤◌, List, [], ◌∷◌, ◌++◌, refl, arith}
use Rattle.std.specs.List.{All, flat_map}
use Rattle.std.proofs.lemmas.List.Elements.{All-nil, All-cons, All-head, All-tail}
use Rattle.std.proofs.lemmas.List.Sums.{sum_by-append}
use Rattle.flattener.specs.Block.{BlockState}
use Rattle.flattener.specs.Fits.{EntryFits, SegmentFits, ViewFits, live_count, live_in as live_documents, most_live}
use Rattle.layout.specs.Layout.{live_in}
use Rattle.mapping.specs.Mapping.{Mapping}
use Rattle.segment.specs.Live.{EntryState, IsLiveOver}
use Rattle.segment_builder.specs.Blocks.{block_objects, objects_of}
use Rattle.segment_view.specs.Views.{HaveOwnBits}
use Rattle.index_core.specs.Found.{AreFit, AreWhole, IsWhole}
use Rattle.index_core.specs.Kept.{segment_kept, segments_kept}

own_count : (entry : EntryState) → IsWhole entry → IsLiveOver entry.columns entry.live → live_documents entry ≡ objects_of (live_in (segment_kept entry))
own_count entry whole over = whole.counted entry.live over

counts : (entries : List EntryState) → AreWhole entries → HaveOwnBits entries → live_count entries ≡ objects_of (flat_map live_in (segments_kept entries))
counts [] whole bits = refl
counts (entry ∷ entries) whole bits =
    let own = own_count entry (All-head (λ (e : EntryState). IsWhole e) entry entries whole) (All-head (λ (e : EntryState). IsLiveOver e.columns e.live) entry entries bits) in
    let rest = counts entries (All-tail (λ (e : EntryState). IsWhole e) entry entries whole) (All-tail (λ (e : EntryState). IsLiveOver e.columns e.live) entry entries bits) in
    omega (arith, own, rest, sum_by-append block_objects (live_in (segment_kept entry)) (flat_map live_in (segments_kept entries)))

each_fits : (m : Mapping) (entries : List EntryState) → AreWhole entries → HaveOwnBits entries → AreFit m entries → live_count entries ≤ most_live → All (EntryFits m) entries
each_fits m [] whole bits fit few = All-nil (EntryFits m)
each_fits m (entry ∷ entries) whole bits fit few =
    All-cons (EntryFits m) entry entries
    (record {
      segment = All-head (λ (e : EntryState). SegmentFits m e.columns) entry entries fit;
      live = All-head (λ (e : EntryState). IsLiveOver e.columns e.live) entry entries bits;
      few = omega (arith, few);
    })
    (each_fits m entries (All-tail (λ (e : EntryState). IsWhole e) entry entries whole) (All-tail (λ (e : EntryState). IsLiveOver e.columns e.live) entry entries bits)
    (All-tail (λ (e : EntryState). SegmentFits m e.columns) entry entries fit) (omega (arith, few)))

pub view_fits : (m : Mapping) (entries : List EntryState) (buffer : List BlockState) → AreWhole entries → HaveOwnBits entries → AreFit m entries → objects_of (flat_map live_in (segments_kept entries) ++ buffer) ≤ most_live → ViewFits m entries
view_fits m entries buffer whole bits fit few =
    let all : live_count entries ≤ most_live = omega (arith, few, counts entries whole bits, sum_by-append block_objects (flat_map live_in (segments_kept entries)) buffer) in
    record { each = each_fits m entries whole bits fit all; few = all }
