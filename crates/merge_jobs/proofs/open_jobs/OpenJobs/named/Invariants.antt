use Rattle.std.proofs.Common.{◌≡◌, drop}
use Rattle.std.specs.List.{find}
use Rattle.merge_jobs.specs.Open.{is_named}
use Rattle.merge_jobs.proofs.open_jobs.OpenJobs.named.Given as goal

abbrev pub invariant-jobs : goal.invariant-jobs
invariant-jobs l = find (is_named l.id) (drop l.job-index l.job-items) ≡ find (is_named l.id) l.job-items
