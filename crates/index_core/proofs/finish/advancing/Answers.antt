use Rattle.std.proofs.Common.{◌≡◌, List, take, drop, ap, ◌∙◌, arith}
use Rattle.merge_jobs.specs.Job.{live_in_all}
use Rattle.segment.specs.Live.{EntryState}
use Rattle.segment_builder.specs.Blocks.{objects_of}
use Rattle.view_merge.proofs.Ways.{few_range}
use Rattle.index_core.proofs.Jobs.{range_later}
use Rattle.index_core.proofs.finish.advancing.Goals as goal

pub advance-requires-clause-same : goal.advance-requires-clause-same
advance-requires-clause-same c = λ job named.
    let range : c.neighbours-now.result.now ≡ take c.range_of-from.result.1 (drop c.range_of-from.result.0 c.args.view.now) = c.neighbours-now.ensures ∙ ap (λ (es : List EntryState). take c.range_of-from.result.1 (drop c.range_of-from.result.0 es)) c.entries.ensures.entries in
    range_later c.args.view.now c.args.jobs.now c.args.id c.requires.job.0 job c.range_of-from.result c.neighbours-now.result.now c.requires.job.1 named (c.range_of-from.ensures job named) range

pub advance-requires-clause-few : goal.advance-requires-clause-few
advance-requires-clause-few c =
    let range : c.neighbours-now.result.now ≡ take c.range_of-from.result.1 (drop c.range_of-from.result.0 c.args.view.now) = c.neighbours-now.ensures ∙ ap (λ (es : List EntryState). take c.range_of-from.result.1 (drop c.range_of-from.result.0 es)) c.entries.ensures.entries in
    omega (arith, c.requires.few, ap (λ (es : List EntryState). objects_of (live_in_all es)) range, few_range c.range_of-from.result.0 c.range_of-from.result.1 c.args.view.now)
