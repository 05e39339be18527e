use Rattle.std.proofs.Common.{◌≡◌, ◌+◌, ℕ, List, length, map, filter, is_some, Some, None, IsSome, sym, ap, subst, ◌∙◌, arith}
use Rattle.std.specs.List.{find}
use Rattle.flattener.specs.Fits.{SegmentFits}
use Rattle.layout.specs.Layout.{OpenMerge, live_of_range, shifted}
use Rattle.layout.specs.Merges.{finish_fault, finished, merge_named}
use Rattle.merge_jobs.specs.Open.{OpenState, is_named, is_other_than, with_merge}
use Rattle.segment.specs.Live.{EntryState}
use Rattle.segment_builder.specs.Blocks.{objects_of}
use Rattle.segment_view.specs.Views.{replaced}
use Rattle.view_merge.specs.Given.{segments_of}
use Rattle.index_core.specs.Found.{AreFit, AreKept, BlocksState, IsRelaid, layout_of, live_blocks}
use Rattle.index_core.specs.contracts.kept_blocks.KeptBlocks.{the_view}
use Rattle.index_core.specs.declared.merge.MergeDone.{MergeDone}
use Rattle.index_core.proofs.Jobs.{each}
use Rattle.index_core.proofs.Relaying.{IsGiven, all_index, all_replaced, few_entries, finish_ended, finish_given, finished_job, given_kept, live_range, same_end}
use Rattle.index_core.proofs.kept_blocks.KeptBlocks.finish.Goals as goal

pub finishing-requires-clause-job : goal.finishing-requires-clause-job
finishing-requires-clause-job c =
    let end = finished_job (the_view c.self.inside) c.args.id c.self.invariant (subst (λ (s : BlocksState). finish_fault c.args.id (layout_of s) ≡ None) (sym c.self.view_is) c.requires.fault) in
    (end.1.job, end.1.has, end.1.done)

pub finishing-requires-clause-few : goal.finishing-requires-clause-few
finishing-requires-clause-few c =
    let it : BlocksState = the_view c.self.inside in
    omega (arith, c.requires.few, ap (λ (s : BlocksState). objects_of (live_blocks s.entries s.buffer)) c.self.view_is, few_entries it.entries it.buffer)

pub give_way-requires-clause-within : goal.give_way-requires-clause-within
give_way-requires-clause-within c =
    let end = finished_job (the_view c.self.inside) c.args.id c.self.invariant (subst (λ (s : BlocksState). finish_fault c.args.id (layout_of s) ≡ None) (sym c.self.view_is) c.requires.fault) in
    let range = c.in_ok-from.ensures.range end.1.job end.1.has in
    omega (arith, range.0, range.1, end.1.has.within)

pub close-requires-clause-open : goal.close-requires-clause-open
close-requires-clause-open c =
    let end = finished_job (the_view c.self.inside) c.args.id c.self.invariant (subst (λ (s : BlocksState). finish_fault c.args.id (layout_of s) ≡ None) (sym c.self.view_is) c.requires.fault) in
    subst (λ (js : List OpenState). IsSome (find (is_named c.args.id) js)) (sym c.in_ok-from.ensures.same) (ap is_some end.1.has.named)

pub invariant_of-self-2 : goal.invariant_of-self-2
invariant_of-self-2 c =
    let it : BlocksState = the_view c.self.inside in
    let end = finished_job it c.args.id c.self.invariant (subst (λ (s : BlocksState). finish_fault c.args.id (layout_of s) ≡ None) (sym c.self.view_is) c.requires.fault) in
    let range = c.in_ok-from.ensures.range end.1.job end.1.has in
    let made = c.in_ok-from.field-0 in
    let by = made.entry in
    let n = length (segments_of by) in
    let others = filter (is_other_than c.args.id) it.jobs in
    let at = range.0 ∙ ap (λ (m : OpenMerge). m.from) end.1.merge_is in
    let long = range.1 ∙ ap (λ (m : OpenMerge). m.count) end.1.merge_is in
    let given : IsGiven it made.from made.count by others = finish_given it c.args.id made.from made.count end.0 by c.self.invariant end.1 at long c.in_ok-from.ensures.id c.give_way.ensures.whole c.in_ok-from.ensures.entry in
    let jobs_are = c.shift.ensures ∙ ap (λ (k : ℕ). map (with_merge (shifted made.from made.count k)) c.close.new.self) c.in_ok-by.ensures.put ∙ ap (map (with_merge (shifted made.from made.count n))) (c.close.ensures ∙ ap (filter (is_other_than c.args.id)) c.in_ok-from.ensures.same) in
    subst (λ (m : ℕ). AreKept m it.started it.factor c.give_way.new.view c.shift.new.self) (sym c.in_ok-by.ensures.made)
    (subst (λ (es : List EntryState). AreKept (it.made + n) it.started it.factor es c.shift.new.self) (sym c.in_ok-by.ensures.view)
    (subst (AreKept (it.made + n) it.started it.factor (replaced made.from made.count by it.entries)) (sym jobs_are) (given_kept it made.from made.count by others c.self.invariant.below c.self.invariant.factor_is given)))

pub returns-clause-layout : goal.returns-clause-layout
returns-clause-layout c = λ merge named.
    let it : BlocksState = the_view c.self.inside in
    let found = finished_job it c.args.id c.self.invariant (subst (λ (s : BlocksState). finish_fault c.args.id (layout_of s) ≡ None) (sym c.self.view_is) c.requires.fault) in
    let end = same_end it c.args.id merge found.0 found.1 (subst (λ (s : BlocksState). merge_named c.args.id (layout_of s) ≡ Some merge) (sym c.self.view_is) named) in
    let made = c.in_ok-from.field-0 in
    let by = made.entry in
    let n = length (segments_of by) in
    let others = filter (is_other_than c.args.id) it.jobs in
    let range = c.in_ok-from.ensures.range end.job end.has in
    let at = range.0 ∙ ap (λ (m : OpenMerge). m.from) end.merge_is in
    let long = range.1 ∙ ap (λ (m : OpenMerge). m.count) end.merge_is in
    let given : IsGiven it made.from made.count by others = finish_given it c.args.id made.from made.count merge by c.self.invariant end at long c.in_ok-from.ensures.id c.give_way.ensures.whole c.in_ok-from.ensures.entry in
    let now : BlocksState = record it { entries = c.give_way.new.view; made = c.give_way.new.made; jobs = c.shift.new.self } in
    let jobs_are = c.shift.ensures ∙ ap (λ (k : ℕ). map (with_merge (shifted made.from made.count k)) c.close.new.self) c.in_ok-by.ensures.put ∙ ap (map (with_merge (shifted made.from made.count n))) (c.close.ensures ∙ ap (filter (is_other_than c.args.id)) c.in_ok-from.ensures.same) in
    let is = ap (λ (es : List EntryState). let s : BlocksState = record it { entries = es; made = c.give_way.new.made; jobs = c.shift.new.self } in s) c.in_ok-by.ensures.view
    ∙ ap (λ (m : ℕ). let s : BlocksState = record it { entries = replaced made.from made.count by it.entries; made = m; jobs = c.shift.new.self } in s) c.in_ok-by.ensures.made
    ∙ ap (λ (js : List OpenState). let s : BlocksState = record it { entries = replaced made.from made.count by it.entries; made = it.made + n; jobs = js } in s) jobs_are in
    (finish_ended it now c.args.id made.from made.count merge by given end at long c.give_way.ensures.top is).layout ∙ ap (λ (s : BlocksState). finished merge (layout_of s)) c.self.view_is

pub returns-clause-done : goal.returns-clause-done
returns-clause-done c = λ merge named.
    let it : BlocksState = the_view c.self.inside in
    let found = finished_job it c.args.id c.self.invariant (subst (λ (s : BlocksState). finish_fault c.args.id (layout_of s) ≡ None) (sym c.self.view_is) c.requires.fault) in
    let end = same_end it c.args.id merge found.0 found.1 (subst (λ (s : BlocksState). merge_named c.args.id (layout_of s) ≡ Some merge) (sym c.self.view_is) named) in
    let made = c.in_ok-from.field-0 in
    let range = c.in_ok-from.ensures.range end.job end.has in
    let at = range.0 ∙ ap (λ (m : OpenMerge). m.from) end.merge_is in
    let long = range.1 ∙ ap (λ (m : OpenMerge). m.count) end.merge_is in
    let live = c.in_ok-from.ensures.live ∙ ap length (sym (live_range made.from made.count it.entries)) ∙ ap (λ (n : ℕ). length (live_of_range n made.count (layout_of it))) at ∙ ap (λ (n : ℕ). length (live_of_range merge.from n (layout_of it))) long in
    ap (λ (n : ℕ). let d : MergeDone = record { id = c.args.id; count = n } in d) live
    ∙ ap (λ (s : BlocksState). let d : MergeDone = record { id = c.args.id; count = length (live_of_range merge.from merge.count (layout_of s)) } in d) c.self.view_is

pub returns-clause-segments : goal.returns-clause-segments
returns-clause-segments c = λ m fit.
    let it : BlocksState = the_view c.self.inside in
    let made = c.in_ok-from.field-0 in
    let P : EntryState → Type 0 = λ (e : EntryState). SegmentFits m e.columns in
    let old = subst (λ (s : BlocksState). AreFit m s.entries) (sym c.self.view_is) fit in
    subst (AreFit m) (sym c.in_ok-by.ensures.view) (all_index P (replaced made.from made.count made.entry it.entries) (all_replaced P made.from made.count made.entry it.entries (each P it.entries old) (c.in_ok-from.ensures.fits m old)))

pub returns-clause-relaid : goal.returns-clause-relaid
returns-clause-relaid c =
    let it : BlocksState = the_view c.self.inside in
    let found = finished_job it c.args.id c.self.invariant (subst (λ (s : BlocksState). finish_fault c.args.id (layout_of s) ≡ None) (sym c.self.view_is) c.requires.fault) in
    let end = found.1 in
    let made = c.in_ok-from.field-0 in
    let by = made.entry in
    let n = length (segments_of by) in
    let others = filter (is_other_than c.args.id) it.jobs in
    let range = c.in_ok-from.ensures.range end.job end.has in
    let at = range.0 ∙ ap (λ (m : OpenMerge). m.from) end.merge_is in
    let long = range.1 ∙ ap (λ (m : OpenMerge). m.count) end.merge_is in
    let given : IsGiven it made.from made.count by others = finish_given it c.args.id made.from made.count found.0 by c.self.invariant end at long c.in_ok-from.ensures.id c.give_way.ensures.whole c.in_ok-from.ensures.entry in
    let now : BlocksState = record it { entries = c.give_way.new.view; made = c.give_way.new.made; jobs = c.shift.new.self } in
    let jobs_are = c.shift.ensures ∙ ap (λ (k : ℕ). map (with_merge (shifted made.from made.count k)) c.close.new.self) c.in_ok-by.ensures.put ∙ ap (map (with_merge (shifted made.from made.count n))) (c.close.ensures ∙ ap (filter (is_other_than c.args.id)) c.in_ok-from.ensures.same) in
    let is = ap (λ (es : List EntryState). let s : BlocksState = record it { entries = es; made = c.give_way.new.made; jobs = c.shift.new.self } in s) c.in_ok-by.ensures.view
    ∙ ap (λ (m : ℕ). let s : BlocksState = record it { entries = replaced made.from made.count by it.entries; made = m; jobs = c.shift.new.self } in s) c.in_ok-by.ensures.made
    ∙ ap (λ (js : List OpenState). let s : BlocksState = record it { entries = replaced made.from made.count by it.entries; made = it.made + n; jobs = js } in s) jobs_are in
    subst (λ (s : BlocksState). IsRelaid s now) c.self.view_is (finish_ended it now c.args.id made.from made.count found.0 by given end at long c.give_way.ensures.top is).relaid
