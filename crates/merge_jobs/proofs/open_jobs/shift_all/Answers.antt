use Rattle.std.proofs.Common.{◌<◌, length, sym, ap, ◌∙◌, arith}
use Rattle.layout.specs.Layout.{shifted}
use Rattle.merge_jobs.specs.Open.{with_merge}
use Rattle.merge_jobs.proofs.Moved.{next_length, next_set}
use Rattle.merge_jobs.proofs.open_jobs.shift_all.Goals as goal

pub jobs-preserved : goal.jobs-preserved
jobs-preserved c =
    let f = with_merge (shifted c.args.from c.args.count c.args.by) in
    let old = c.args.jobs.now.items in
    let within : c.jobs.job-index < length c.jobs.job-items = omega (arith, c.jobs-test.true, ap length c.deref_mut-job-items.ensures.value, ap length c.jobs.invariant, next_length f old c.jobs.job-index) in
    next_set f old c.jobs.job-items c.jobs.job-index c.job-item.result c.shift.new.self c.job-item.result c.jobs.invariant within c.job-item.is (c.shift.ensures ∙ ap f (sym c.job-item.is))
