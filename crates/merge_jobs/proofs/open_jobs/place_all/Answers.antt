use Rattle.std.proofs.Common.{◌<◌, List, length, take, set, get_or, slice_index_or, ap, ◌∙◌, arith}
use Rattle.merge_jobs.specs.Open.{OpenState}
use Rattle.merge_jobs.specs.declared.rows.MergeRow.{MergeRow}
use Rattle.merge_jobs.proofs.Moved.{at_length, at_next, no_rows, put_at}
use Rattle.merge_jobs.proofs.open_jobs.place_all.Goals as goal

pub jobs-init : goal.jobs-init
jobs-init c = no_rows c.args.jobs.now.items

pub index_mut-job-requires : goal.index_mut-job-requires
index_mut-job-requires c = omega (arith, c.jobs-test.true, c.requires, ap length c.jobs.invariant, at_length c.args.jobs.now.items (take c.jobs.index c.args.rows.now), c.jobs.jobs.ok.0, c.args.jobs.now.ok.0)

pub jobs-preserved : goal.jobs-preserved
jobs-preserved c =
    let index = c.jobs.index in
    let d : MergeRow = record { count = 0; from = 0; left = 0; merge = 0 } in
    let from = (slice_index_or c.args.rows.now index d).from in
    let v = c.index_mut-job.result.now in
    let within : index < length c.args.jobs.now.items = omega (arith, c.jobs-test.true, c.requires, c.args.jobs.now.ok.0) in
    ap (λ (job : OpenState). set c.jobs.jobs.items index (put_at job from)) (c.job.view_is ∙ c.index_mut-job.ensures.value)
    ∙ ap (λ (js : List OpenState). set js index (put_at (get_or js index v) from)) c.jobs.invariant
    ∙ at_next c.args.jobs.now.items c.args.rows.now index v d c.jobs-test.true within
