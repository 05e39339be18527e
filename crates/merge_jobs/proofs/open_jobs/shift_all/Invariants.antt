use Rattle.std.proofs.Common.{◌≡◌, ◌++◌, drop, take, map}
use Rattle.layout.specs.Layout.{shifted}
use Rattle.merge_jobs.specs.Open.{with_merge}
use Rattle.merge_jobs.proofs.open_jobs.shift_all.Given as goal

abbrev pub invariant-jobs : goal.invariant-jobs
invariant-jobs l = l.job-items ≡ map (with_merge (shifted l.from l.count l.by)) (take l.job-index l.fn.jobs.items) ++ drop l.job-index l.fn.jobs.items
