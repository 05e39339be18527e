use Rattle.std.proofs.Common.{◌≡◌, take}
use Rattle.merge_jobs.specs.Open.{merges_in, merges_shown}
use Rattle.merge_jobs.proofs.open_jobs.OpenJobs.rows.Given as goal

abbrev pub invariant-jobs : goal.invariant-jobs
invariant-jobs l = merges_shown l.rows.items ≡ merges_in (take l.job-index l.job-items)
