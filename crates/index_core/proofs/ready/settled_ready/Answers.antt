use Rattle.std.proofs.Common.{◌≡◌, ◌≤◌, List, length, map, sym, ap, subst, ◌∙◌, arith}
use Rattle.std.specs.List.{All, sum_by}
use Rattle.std.proofs.lemmas.List.{length-map}
use Rattle.flattener.specs.Fits.{most_live}
use Rattle.layout.proofs.Merging.{AreDistinct, HaveIds, segment_id}
use Rattle.merge_jobs.specs.Job.{live_in_all, segment_kept, segments_kept}
use Rattle.merge_jobs.specs.Open.{merges_shown}
use Rattle.merge_policy.specs.Policy.{settled_made, settled_runs}
use Rattle.merge_policy.specs.Runs.{AreRuns, counts_from, live_counted, moved}
use Rattle.merge_policy.specs.declared.runs.Run.{Run}
use Rattle.merge_jobs.specs.declared.rows.MergeRow.{MergeRow}
use Rattle.segment.specs.Live.{EntryState}
use Rattle.segment_builder.specs.Blocks.{objects_of}
use Rattle.view_merge.specs.Given.{IsKeptOrMade, settled_segments}
use Rattle.index_core.specs.Found.{AreWhole}
use Rattle.index_core.specs.declared.ready.Ready.{Ready}
use Rattle.index_core.proofs.Settled.{counts_long, few_counted, settled_below, settled_is, settled_layout, settled_own}
use Rattle.index_core.proofs.ready.settled_ready.Goals as goal

pub settled-requires-clause-few : goal.settled-requires-clause-few
settled-requires-clause-few c =
    let counts = c.as_slice-2.ensures.value ∙ c.in_ok-counts.ensures in
    omega (arith, ap (sum_by live_counted) counts, few_counted (merges_shown c.as_slice.result.now) c.entries-entries.result.now (subst (λ (es : List EntryState). objects_of (live_in_all es) ≤ most_live) (sym c.entries-entries.ensures.entries) c.requires.few))

pub settled_view-requires-clause-runs : goal.settled_view-requires-clause-runs
settled_view-requires-clause-runs c =
    let gone = c.in_ok-gone.gone in
    let counts = c.as_slice-2.ensures.value ∙ c.in_ok-counts.ensures in
    let long : length c.as_slice-2.result.now ≡ length c.entries-entries.result.now = ap length counts ∙ counts_long (merges_shown c.as_slice.result.now) 0 (segments_kept c.entries-entries.result.now) ∙ length-map c.entries-entries.result.now segment_kept in
    let runs = subst (λ (rs : List Run). AreRuns gone.made 0 rs (length c.as_slice-2.result.now)) (sym c.as_slice-3.ensures.value) c.in_ok-gone.ensures.order in
    (gone.made, (subst (AreRuns gone.made 0 c.as_slice-3.result.now) long runs, omega (arith, c.in_ok-made.ensures)))

pub settled_view-requires-clause-ids : goal.settled_view-requires-clause-ids
settled_view-requires-clause-ids c =
    let ready = c.args.ready in
    let gone = c.in_ok-gone.gone in
    let counts = c.as_slice-2.ensures.value ∙ c.in_ok-counts.ensures ∙ ap (λ (ms : List MergeRow). counts_from (merges_shown ms) 0 (segments_kept c.entries-entries.result.now)) c.as_slice.ensures.value
    ∙ ap (λ (es : List EntryState). counts_from (merges_shown ready.merges.items) 0 (segments_kept es)) c.entries-entries.ensures.entries in
    let is = settled_is ready 0 c.args.factor gone.runs.items gone.made c.requires.factor.0 c.requires.open (c.in_ok-gone.ensures.runs ∙ ap (settled_runs c.args.factor) counts) (c.in_ok-gone.ensures.made ∙ ap (settled_made c.args.factor) counts) in
    let own = (settled_own ready c.args.factor gone.runs.items gone.made c.entries-entries.ensures.ids c.requires.below is).distinct in
    subst (λ (rs : List Run). AreDistinct (map segment_id (settled_segments ready.made rs (segments_kept c.entries-entries.result.now)))) (sym c.as_slice-3.ensures.value)
    (subst (λ (es : List EntryState). AreDistinct (map segment_id (settled_segments ready.made gone.runs.items (segments_kept es)))) (sym c.entries-entries.ensures.entries) own)

pub returns-clause-settled : goal.returns-clause-settled
returns-clause-settled c = λ started.
    let ready = c.args.ready in
    let gone = c.in_ok-gone.gone in
    let counts = c.as_slice-2.ensures.value ∙ c.in_ok-counts.ensures ∙ ap (λ (ms : List MergeRow). counts_from (merges_shown ms) 0 (segments_kept c.entries-entries.result.now)) c.as_slice.ensures.value
    ∙ ap (λ (es : List EntryState). counts_from (merges_shown ready.merges.items) 0 (segments_kept es)) c.entries-entries.ensures.entries in
    let is = settled_is ready started c.args.factor gone.runs.items gone.made c.requires.factor.0 c.requires.open (c.in_ok-gone.ensures.runs ∙ ap (settled_runs c.args.factor) counts) (c.in_ok-gone.ensures.made ∙ ap (settled_made c.args.factor) counts) in
    let segments = c.in_ok-view.ensures.segments ∙ ap (λ (rs : List Run). settled_segments ready.made rs (segments_kept c.entries-entries.result.now)) c.as_slice-3.ensures.value
    ∙ ap (λ (es : List EntryState). settled_segments ready.made gone.runs.items (segments_kept es)) c.entries-entries.ensures.entries in
    let now : Ready = record { view = c.in_ok-view.view; made = c.in_ok-made.made; merges = c.move_behind.new.rows } in
    settled_layout ready now started c.args.factor gone.runs.items gone.made c.requires.factor.0 is segments c.in_ok-made.ensures
    (c.move_behind.ensures ∙ ap (λ (rs : List Run). map (moved rs) (merges_shown ready.merges.items)) c.as_slice-4.ensures.value)

pub returns-clause-below : goal.returns-clause-below
returns-clause-below c =
    let ready = c.args.ready in
    let gone = c.in_ok-gone.gone in
    let counts = c.as_slice-2.ensures.value ∙ c.in_ok-counts.ensures ∙ ap (λ (ms : List MergeRow). counts_from (merges_shown ms) 0 (segments_kept c.entries-entries.result.now)) c.as_slice.ensures.value
    ∙ ap (λ (es : List EntryState). counts_from (merges_shown ready.merges.items) 0 (segments_kept es)) c.entries-entries.ensures.entries in
    let is = settled_is ready 0 c.args.factor gone.runs.items gone.made c.requires.factor.0 c.requires.open (c.in_ok-gone.ensures.runs ∙ ap (settled_runs c.args.factor) counts) (c.in_ok-gone.ensures.made ∙ ap (settled_made c.args.factor) counts) in
    let segments = c.in_ok-view.ensures.segments ∙ ap (λ (rs : List Run). settled_segments ready.made rs (segments_kept c.entries-entries.result.now)) c.as_slice-3.ensures.value
    ∙ ap (λ (es : List EntryState). settled_segments ready.made gone.runs.items (segments_kept es)) c.entries-entries.ensures.entries in
    let own = settled_own ready c.args.factor gone.runs.items gone.made c.entries-entries.ensures.ids c.requires.below is in
    settled_below c.in_ok-view.view c.in_ok-made.made (settled_segments ready.made gone.runs.items (segments_kept ready.view)) segments
    (subst (HaveIds (settled_segments ready.made gone.runs.items (segments_kept ready.view))) (sym c.in_ok-made.ensures) own) (subst AreWhole c.entries.ensures.entries c.entries_are_whole.ensures)

pub returns-clause-entries : goal.returns-clause-entries
returns-clause-entries c = subst (λ (es : List EntryState). All (IsKeptOrMade es c.args.ready.made) c.in_ok-view.view) c.entries-entries.ensures.entries c.in_ok-view.ensures.entries
