-- What settling by a factor leaves of a sealed buffer: the view that the runs of its counts give.
use Rattle.std.proofs.Common.{◌≡◌, inl, inr, ℕ, ◌+◌, ◌==◌, ◌<◌, ◌≤◌, ◌^◌, List, [], ◌∷◌, length, map, Option, Some, None, refl, sym, ap, subst, ◌∙◌, arith, eqb-true}
use Rattle.std.specs.List.{All, AllByRecursion, sum_by}
use Rattle.std.proofs.lemmas.List.{length-append, length-map}
use Rattle.std.proofs.lemmas.List.Elements.{All-nil, All-cons, All-weaker}
use Rattle.std.proofs.lemmas.List.Sums.{sum_by-cons}
use Rattle.flattener.specs.Block.{BlockState}
use Rattle.flattener.specs.Fits.{most_live}
use Rattle.layout.proofs.Goes.{split}
use Rattle.layout.proofs.Keeps.{sealed_keeps}
use Rattle.layout.proofs.Merging.{AreUnder, HaveIds, all_weaker, remade_ids, segment_id, settled_by}
use Rattle.layout.specs.Layout.{Layout, OpenMerge, SegmentOf, live_items, sealed, segment_of, settled, with_buffer_last}
use Rattle.layout.specs.Merges.{AreOpen, IsWithin, factor_of}
use Rattle.merge_jobs.proofs.LiveRoots.{few_live}
use Rattle.merge_jobs.specs.Job.{live_in_all, segment_kept, segments_kept}
use Rattle.merge_jobs.specs.Open.{merges_in, merges_shown, placeless}
use Rattle.merge_policy.proofs.Passes.{settles_by_runs}
use Rattle.merge_policy.specs.Policy.{settled_made, settled_runs}
use Rattle.merge_policy.specs.Runs.{IsAmong, live_counted, count_at, counts_from, counts_of, laid_by, moved}
use Rattle.merge_policy.specs.declared.runs.Run.{Run}
use Rattle.segment.specs.Live.{EntryState}
use Rattle.segment_builder.specs.Blocks.{live_blocks, objects_of}
use Rattle.segment_view.specs.Views.{HaveOwnIds}
use Rattle.view_merge.specs.Given.{IsKeptOrMade, settled_segments}
use Rattle.index_core.specs.Found.{AreBelow, AreKept, AreWhole, BlocksState, entry_id, layout_of, layout_ready, live_blocks as all_live}
use Rattle.index_core.specs.declared.ready.Ready.{Ready}
use Rattle.index_core.proofs.Jobs.{each, have_ids, ids_kept, one_of}
use Rattle.index_core.proofs.Relaying.{all_index, few_entries, sealed_placeless}

settled_ids : {A : Type 0} (factor : Option ℕ) (layout : Layout A) → HaveIds layout.segments layout.made → HaveIds (settled factor layout).segments (settled factor layout).made
settled_ids factor layout are = settled_by (λ l. HaveIds l.segments l.made) (λ from count l p some there free. remade_ids from count l p) factor layout are

pub some_factor : (factor : ℕ) → 0 < factor → factor_of factor ≡ Some factor
some_factor factor some = split (factor == 0) (λ is. absurd (omega (arith, some, eqb-true factor 0 is))) (λ isnt. rw isnt refl)

counts_sum : (merges : List OpenMerge) (index : ℕ) (entries : List EntryState) → sum_by live_counted (counts_from merges index (segments_kept entries)) ≡ length (live_in_all entries)
counts_sum merges index [] = refl
counts_sum merges index (entry ∷ entries) =
    omega (arith, counts_sum merges (index + 1) entries, length-append (live_blocks entry) (live_in_all entries), sum_by-cons live_counted (count_at merges index (segment_kept entry)) (counts_from merges (index + 1) (segments_kept entries)))

pub few_counted : (merges : List OpenMerge) (entries : List EntryState) → objects_of (live_in_all entries) ≤ most_live → sum_by live_counted (counts_from merges 0 (segments_kept entries)) ≤ 2 ^ 60
few_counted merges entries few = omega (arith, counts_sum merges 0 entries, few_live entries, few)

among_all : (segments : ℕ) (ms : List OpenMerge) → AllByRecursion (IsWithin segments) ms → All (IsAmong segments) ms
among_all segments [] all = All-nil (IsAmong segments)
among_all segments (m ∷ ms) all = All-cons (IsAmong segments) m ms (record { some = all.0.some; within = all.0.within }) (among_all segments ms all.1)

-- what the runs give is the layout that has settled
pub settled_is : (ready : Ready) (started factor : ℕ) (runs : List Run) (made : ℕ) → 0 < factor → (s : ℕ) × AreOpen (length ready.view) s (merges_shown ready.merges.items)
    → runs ≡ settled_runs factor (counts_from (merges_shown ready.merges.items) 0 (segments_kept ready.view)) → made ≡ settled_made factor (counts_from (merges_shown ready.merges.items) 0 (segments_kept ready.view))
    → settled (Some factor) (layout_ready ready started factor) ≡ laid_by runs made (layout_ready ready started factor)
settled_is ready started factor runs made some open_is runs_are made_is =
    let l = layout_ready ready started factor in
    let among = among_all (length (segments_kept ready.view)) (merges_shown ready.merges.items) (subst (λ n. AllByRecursion (IsWithin n) (merges_shown ready.merges.items)) (sym (length-map ready.view segment_kept)) open_is.1.within) in
    settles_by_runs factor l among ∙ ap (λ rs. laid_by rs (settled_made factor (counts_of l)) l) (sym runs_are) ∙ ap (λ n. laid_by runs n l) (sym made_is)

pub settled_layout : (ready now : Ready) (started factor : ℕ) (runs : List Run) (made : ℕ) → 0 < factor → settled (Some factor) (layout_ready ready started factor) ≡ laid_by runs made (layout_ready ready started factor)
    → segments_kept now.view ≡ settled_segments ready.made runs (segments_kept ready.view) → now.made ≡ ready.made + made → merges_shown now.merges.items ≡ map (moved runs) (merges_shown ready.merges.items)
    → layout_ready now started factor ≡ settled (Some factor) (layout_ready ready started factor)
settled_layout ready now started factor runs made some is segments made_is merges = rw (segments, made_is, merges) (sym is)

-- its segments have ids of their own
pub settled_own : (ready : Ready) (factor : ℕ) (runs : List Run) (made : ℕ) → HaveOwnIds ready.view → AreBelow ready.made ready.view
    → settled (Some factor) (layout_ready ready 0 factor) ≡ laid_by runs made (layout_ready ready 0 factor) → HaveIds (settled_segments ready.made runs (segments_kept ready.view)) (ready.made + made)
settled_own ready factor runs made own below is =
    subst (λ (l : Layout BlockState). HaveIds l.segments l.made) is (settled_ids (Some factor) (layout_ready ready 0 factor) (have_ids ready.made ready.view own below.ids))

all_ids : (end : ℕ) (entries : List EntryState) → AreUnder end (map entry_id entries) → AllByRecursion (λ (e : EntryState). e.id < end) entries
all_ids end [] under = tt
all_ids end (e ∷ entries) under = (under.0, all_ids end entries under.1)

pub settled_below : (view : List EntryState) (made : ℕ) (segments : List (SegmentOf BlockState)) → segments_kept view ≡ segments → HaveIds segments made → AreWhole view → AreBelow made view
settled_below view made segments is ids whole = record {
  ids = all_index (λ (e : EntryState). e.id < made) view (all_ids made view (subst (AreUnder made) (ap (map segment_id) (sym is) ∙ ids_kept view) ids.under));
  whole = whole;
}

-- ---- a sealed buffer, before and after settling

pub counts_long : (merges : List OpenMerge) (index : ℕ) (segments : List (SegmentOf BlockState)) → length (counts_from merges index segments) ≡ length segments
counts_long merges index [] = refl
counts_long merges index (segment ∷ segments) = omega (arith, counts_long merges (index + 1) segments)

last_keeps : (layout : Layout BlockState) → live_items (with_buffer_last layout) ≡ live_items layout
unfolding sealed
last_keeps layout = sealed_keeps (record layout { factor = None })

-- what is so of merges and objects is so beside the buffer's segment
pub record IsLast (it : BlocksState) (last : Ready) : Type 0 where
  pub open_are : AreOpen (length last.view) it.started (merges_shown last.merges.items)
  pub few : objects_of (live_in_all last.view) ≤ most_live
  pub made : it.made ≤ last.made

open_more : (few many started : ℕ) (ms : List OpenMerge) → few ≤ many → AreOpen few started ms → AreOpen many started ms
open_more few many started ms less is = record {
  within = all_weaker (IsWithin few) (IsWithin many) (λ m own. record { some = own.some; within = omega (arith, own.within, less) }) ms is.within;
  apart = is.apart;
  ids = is.ids;
  few = is.few;
}

pub last_is : (it : BlocksState) (last : Ready) → AreKept it.made it.started it.factor it.entries it.jobs → layout_ready last it.started it.factor ≡ with_buffer_last (layout_of it) → objects_of (all_live it.entries it.buffer) ≤ most_live → IsLast it last
last_is it last kept is few =
    let long : length it.entries ≤ length last.view = omega (arith, ap (λ (l : Layout BlockState). length l.segments) is, length-append (segments_kept it.entries) (segment_of it.made it.buffer), length-map last.view segment_kept, length-map it.entries segment_kept) in
    record {
      open_are = open_more (length it.entries) (length last.view) it.started (merges_shown last.merges.items) long (subst (AreOpen (length it.entries) it.started) (sym (ap (λ (l : Layout BlockState). l.merges) is)) kept.open_are);
      few = omega (arith, few, few_entries last.view [], ap objects_of (ap live_items is ∙ last_keeps (layout_of it)));
      made = omega (arith, ap (λ (l : Layout BlockState). l.made) is);
    }

-- where there is no factor, nothing settles
pub last_sealed : (it : BlocksState) (last : Layout BlockState) → it.factor ≡ 0 → last ≡ with_buffer_last (layout_of it) → last ≡ sealed (layout_of it)
unfolding sealed
last_sealed it last none is = is ∙ ap (λ (f : Option ℕ). settled f (with_buffer_last (layout_of it))) (sym (ap factor_of none))

pub settled_sealed : (it : BlocksState) (last now : Ready) → 0 < it.factor → layout_ready now it.started it.factor ≡ settled (Some it.factor) (layout_ready last it.started it.factor) → layout_ready last it.started it.factor ≡ with_buffer_last (layout_of it)
    → layout_ready now it.started it.factor ≡ sealed (layout_of it)
unfolding sealed
settled_sealed it last now some is last_is =
    is ∙ ap (settled (Some it.factor)) last_is ∙ ap (λ (f : Option ℕ). settled f (with_buffer_last (layout_of it))) (sym (some_factor it.factor some))

pub ready_placeless : (it : BlocksState) (ready : Ready) → layout_ready ready it.started it.factor ≡ sealed (layout_of it) → map placeless (merges_shown ready.merges.items) ≡ map placeless (merges_in it.jobs)
ready_placeless it ready is = ap (λ (l : Layout BlockState). map placeless l.merges) is ∙ sealed_placeless (layout_of it)

-- what is kept of entries that are kept is kept
pub kept_then : (entries last now : List EntryState) (made more : ℕ) → made ≤ more → All (IsKeptOrMade entries made) last → All (IsKeptOrMade last more) now → All (IsKeptOrMade entries made) now
kept_then entries last now made more less first second = All-weaker (IsKeptOrMade last more) (IsKeptOrMade entries made) one now second
  where
    one : (entry : EntryState) → IsKeptOrMade last more entry → IsKeptOrMade entries made entry
    one entry (inl here) = one_of (IsKeptOrMade entries made) last entry (each (IsKeptOrMade entries made) last first) here
    one entry (inr new) = inr (omega (arith, new, less))
