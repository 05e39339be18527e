use Rattle.std.proofs.Common.{◌≡◌, List, take, drop, Option, IfSome, sym, ap, subst, ◌∙◌, arith}
use Rattle.flattener.specs.Fits.{SegmentFits}
use Rattle.merge_jobs.specs.Job.{live_in_all}
use Rattle.segment.specs.Live.{EntryState}
use Rattle.segment_builder.specs.Blocks.{objects_of}
use Rattle.segment_parts.specs.declared.columns.Columns.{Columns}
use Rattle.view_merge.specs.Given.{AreFitting}
use Rattle.view_merge.proofs.Ways.{few_range, fit_range}
use Rattle.index_core.proofs.Jobs.{range_later}
use Rattle.index_core.proofs.finish.finishing.Goals as goal

pub finish-requires-clause-same : goal.finish-requires-clause-same
finish-requires-clause-same c = λ job named.
    let range : c.neighbours-range.result.now ≡ take c.range_of-from.result.1 (drop c.range_of-from.result.0 c.args.view.now) = c.neighbours-range.ensures ∙ ap (λ (es : List EntryState). take c.range_of-from.result.1 (drop c.range_of-from.result.0 es)) c.entries.ensures.entries in
    range_later c.args.view.now c.args.jobs.now c.args.id c.requires.job.0 job c.range_of-from.result c.neighbours-range.result.now c.requires.job.1 named (c.range_of-from.ensures job named) range

pub finish-requires-clause-few : goal.finish-requires-clause-few
finish-requires-clause-few c =
    let range : c.neighbours-range.result.now ≡ take c.range_of-from.result.1 (drop c.range_of-from.result.0 c.args.view.now) = c.neighbours-range.ensures ∙ ap (λ (es : List EntryState). take c.range_of-from.result.1 (drop c.range_of-from.result.0 es)) c.entries.ensures.entries in
    omega (arith, c.requires.few, ap (λ (es : List EntryState). objects_of (live_in_all es)) range, few_range c.range_of-from.result.0 c.range_of-from.result.1 c.args.view.now)

pub returns-in_ok-alive_entry-in-Some-clause-fits : goal.returns-in_ok-alive_entry-in-Some-clause-fits
returns-in_ok-alive_entry-in-Some-clause-fits c = λ m fit.
    let range : c.neighbours-range.result.now ≡ take c.range_of-from.result.1 (drop c.range_of-from.result.0 c.args.view.now) = c.neighbours-range.ensures ∙ ap (λ (es : List EntryState). take c.range_of-from.result.1 (drop c.range_of-from.result.0 es)) c.entries.ensures.entries in
    let all = subst (AreFitting m) (sym range) (fit_range m c.range_of-from.result.0 c.range_of-from.result.1 c.args.view.now fit) in
    subst (SegmentFits m) (sym c.in_ok-alive_entry-in-Some.ensures.columns)
    (subst (λ (o : Option Columns). IfSome o (λ segment. SegmentFits m segment)) c.in-Some.is (c.in_ok-segment.ensures.fits m all))
