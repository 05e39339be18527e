use Rattle.std.proofs.Common.{◌≡◌, ◌+◌, ◌-◌, ◌<◌, ◌≤◌, inl, inr, ℕ, List, length, take, drop, get_or, Option, Some, None, IfSome, refl, sym, ap, subst, ◌∙◌, arith}
use Rattle.std.specs.List.{All}
use Rattle.flattener.specs.Fits.{SegmentFits}
use Rattle.layout.specs.Layout.{segment_of}
use Rattle.merge_jobs.specs.Job.{live_in_all, segments_kept}
use Rattle.merge_policy.specs.Runs.{IsRunOf, given_way, range_of}
use Rattle.segment.specs.Live.{EntryState}
use Rattle.segment_builder.specs.Blocks.{objects_of}
use Rattle.view_merge.specs.Given.{AreFitting, IsKeptOrMade, segments_of}
use Rattle.view_merge.proofs.Ways.{contains_at, few_range, fit_more, fit_range, kept_more, new_id, no_segments, one_range, put_segments, range_live}
use Rattle.view_merge.proofs.settle.add_run.Goals as goal

pub push-requires : goal.push-requires
push-requires c =
    let run = c.args.run in
    let entries = c.args.entries.now in
    let entry = c.in_ok-share-in-None.field-0 in
    let same : run.first ≡ run.last = subst (λ (o : Option ℕ). IsRunOf c.requires.made.0 run o) c.in-None.is c.requires.made.1.0 in
    let at : entry ≡ get_or entries run.first c.index-entries-run.result = c.in_ok-share-in-None.ensures ∙ c.index-entries-run.is in
    let is = one_range entries run entry c.index-entries-run.result same c.requires.within at ∙ ap (λ (o : Option ℕ). given_way c.args.made o (range_of run (segments_kept entries))) (sym c.in-None.is) in
    new_id c.args.view.now entry (given_way c.args.made run.made (range_of run (segments_kept entries))) is c.requires.ids

pub returns-in_ok-push-in-None-clause-segments : goal.returns-in_ok-push-in-None-clause-segments
returns-in_ok-push-in-None-clause-segments c =
    let run = c.args.run in
    let entries = c.args.entries.now in
    let entry = c.in_ok-share-in-None.field-0 in
    let same : run.first ≡ run.last = subst (λ (o : Option ℕ). IsRunOf c.requires.made.0 run o) c.in-None.is c.requires.made.1.0 in
    let at : entry ≡ get_or entries run.first c.index-entries-run.result = c.in_ok-share-in-None.ensures ∙ c.index-entries-run.is in
    let is = one_range entries run entry c.index-entries-run.result same c.requires.within at ∙ ap (λ (o : Option ℕ). given_way c.args.made o (range_of run (segments_kept entries))) (sym c.in-None.is) in
    ap segments_kept c.in_ok-push-in-None.ensures.pushed ∙ put_segments c.args.view.now entry (given_way c.args.made run.made (range_of run (segments_kept entries))) is

pub returns-in_ok-push-in-None-clause-entries : goal.returns-in_ok-push-in-None-clause-entries
returns-in_ok-push-in-None-clause-entries c = λ all.
    let run = c.args.run in
    let entries = c.args.entries.now in
    let entry = c.in_ok-share-in-None.field-0 in
    let here : run.first < length entries = omega (arith, c.requires.order, c.requires.within) in
    let at : entry ≡ get_or entries run.first c.index-entries-run.result = c.in_ok-share-in-None.ensures ∙ c.index-entries-run.is in
    subst (All (IsKeptOrMade entries c.args.made)) (sym c.in_ok-push-in-None.ensures.pushed) (kept_more entries c.args.view.now c.args.made entry (inl (contains_at entries run.first entry c.index-entries-run.result here at)) all)

pub returns-in_ok-push-in-None-clause-fits : goal.returns-in_ok-push-in-None-clause-fits
returns-in_ok-push-in-None-clause-fits c = λ m fit old.
    let run = c.args.run in
    let entries = c.args.entries.now in
    let entry = c.in_ok-share-in-None.field-0 in
    let here : run.first < length entries = omega (arith, c.requires.order, c.requires.within) in
    let at : entry ≡ get_or entries run.first c.index-entries-run.result = c.in_ok-share-in-None.ensures ∙ c.index-entries-run.is in
    let own : SegmentFits m entry.columns = subst (λ (e : EntryState). SegmentFits m e.columns) (sym at) (fit run.first c.index-entries-run.result here) in
    subst (AreFitting m) (sym c.in_ok-push-in-None.ensures.pushed) (fit_more m c.args.view.now entry own old)

pub merged_entry-requires-clause-few : goal.merged_entry-requires-clause-few
merged_entry-requires-clause-few c =
    omega (arith, c.requires.few, ap (λ (es : List EntryState). objects_of (live_in_all es)) c.neighbours-range.ensures, few_range c.args.run.first (c.args.run.last + 1 - c.args.run.first) c.args.entries.now)

pub push-requires-in-Some-2 : goal.push-requires-in-Some-2
push-requires-in-Some-2 c =
    let run = c.args.run in
    let entries = c.args.entries.now in
    let range = range_of run (segments_kept entries) in
    let id = c.args.made + c.in-Some.before in
    let is = ap segments_of (sym c.in-Some-2.is) ∙ c.in_ok-entry-in-Some.ensures.segments ∙ ap (λ (es : List EntryState). segment_of id (live_in_all es)) c.neighbours-range.ensures ∙ ap (segment_of id) (sym (range_live run entries))
    ∙ ap (λ (o : Option ℕ). given_way c.args.made o range) (sym c.in-Some.is) in
    new_id c.args.view.now c.in-Some-2.entry (given_way c.args.made run.made range) is c.requires.ids

pub returns-in_ok-push-in-Some-2-clause-segments : goal.returns-in_ok-push-in-Some-2-clause-segments
returns-in_ok-push-in-Some-2-clause-segments c =
    let run = c.args.run in
    let entries = c.args.entries.now in
    let range = range_of run (segments_kept entries) in
    let id = c.args.made + c.in-Some.before in
    let is = ap segments_of (sym c.in-Some-2.is) ∙ c.in_ok-entry-in-Some.ensures.segments ∙ ap (λ (es : List EntryState). segment_of id (live_in_all es)) c.neighbours-range.ensures ∙ ap (segment_of id) (sym (range_live run entries))
    ∙ ap (λ (o : Option ℕ). given_way c.args.made o range) (sym c.in-Some.is) in
    ap segments_kept c.in_ok-push-in-Some-2.ensures.pushed ∙ put_segments c.args.view.now c.in-Some-2.entry (given_way c.args.made run.made range) is

pub returns-in_ok-push-in-Some-2-clause-entries : goal.returns-in_ok-push-in-Some-2-clause-entries
returns-in_ok-push-in-Some-2-clause-entries c = λ all.
    let entry = c.in-Some-2.entry in
    let own : entry.id ≡ c.args.made + c.in-Some.before = subst (λ (o : Option EntryState). IfSome o (λ e. e.id ≡ c.args.made + c.in-Some.before)) c.in-Some-2.is c.in_ok-entry-in-Some.ensures.id in
    let later : c.args.made ≤ entry.id = omega (arith, own) in
    subst (All (IsKeptOrMade c.args.entries.now c.args.made)) (sym c.in_ok-push-in-Some-2.ensures.pushed) (kept_more c.args.entries.now c.args.view.now c.args.made entry (inr later) all)

pub returns-in_ok-push-in-Some-2-clause-fits : goal.returns-in_ok-push-in-Some-2-clause-fits
returns-in_ok-push-in-Some-2-clause-fits c = λ m fit old.
    let run = c.args.run in
    let all = subst (AreFitting m) (sym c.neighbours-range.ensures) (fit_range m run.first (run.last + 1 - run.first) c.args.entries.now fit) in
    let own = subst (λ (o : Option EntryState). IfSome o (λ e. SegmentFits m e.columns)) c.in-Some-2.is (c.in_ok-entry-in-Some.ensures.fits m all) in
    subst (AreFitting m) (sym c.in_ok-push-in-Some-2.ensures.pushed) (fit_more m c.args.view.now c.in-Some-2.entry own old)

pub returns-in-None-2-clause-segments : goal.returns-in-None-2-clause-segments
returns-in-None-2-clause-segments c =
    let run = c.args.run in
    let entries = c.args.entries.now in
    let range = range_of run (segments_kept entries) in
    let id = c.args.made + c.in-Some.before in
    let is = ap segments_of (sym c.in-None-2.is) ∙ c.in_ok-entry-in-Some.ensures.segments ∙ ap (λ (es : List EntryState). segment_of id (live_in_all es)) c.neighbours-range.ensures ∙ ap (segment_of id) (sym (range_live run entries))
    ∙ ap (λ (o : Option ℕ). given_way c.args.made o range) (sym c.in-Some.is) in
    no_segments c.args.view.now (given_way c.args.made run.made range) is
