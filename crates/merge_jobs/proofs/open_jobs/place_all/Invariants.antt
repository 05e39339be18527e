use Rattle.std.proofs.Common.{◌≡◌, take}
use Rattle.merge_jobs.specs.Open.{at_rows}
use Rattle.merge_jobs.proofs.open_jobs.place_all.Given as goal

abbrev pub invariant-jobs : goal.invariant-jobs
invariant-jobs l = l.jobs.items ≡ at_rows l.fn.jobs.items (take l.index l.rows)
