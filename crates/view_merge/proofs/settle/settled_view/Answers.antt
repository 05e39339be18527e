use Rattle.std.proofs.Common.{None, slice_index_or, refl}
use Rattle.merge_policy.specs.declared.runs.Run.{Run}
use Rattle.view_merge.proofs.Ways.{next_run, settling_next}
use Rattle.view_merge.proofs.settle.settled_view.Goals as goal

pub add_run-requires-clause-within : goal.add_run-requires-clause-within
add_run-requires-clause-within c =
    let d : Run = record { first = 0; last = 0; made = None } in
    (next_run c.args.entries.now c.args.made c.args.runs.now c.runs.run-index c.runs.view (slice_index_or c.args.runs.now c.runs.run-index d) d c.runs.invariant c.runs-test.true refl).within

pub add_run-requires-clause-ids : goal.add_run-requires-clause-ids
add_run-requires-clause-ids c =
    let d : Run = record { first = 0; last = 0; made = None } in
    (next_run c.args.entries.now c.args.made c.args.runs.now c.runs.run-index c.runs.view (slice_index_or c.args.runs.now c.runs.run-index d) d c.runs.invariant c.runs-test.true refl).ids c.requires.ids

pub runs-preserved : goal.runs-preserved
runs-preserved c =
    let d : Run = record { first = 0; last = 0; made = None } in
    settling_next c.args.entries.now c.args.made c.args.runs.now c.runs.run-index c.runs.view c.add_run.new.view (slice_index_or c.args.runs.now c.runs.run-index d) d c.runs.invariant c.runs-test.true refl
    c.in_ok-add_run.ensures.segments c.add_run.ensures.entries c.add_run.ensures.fits
