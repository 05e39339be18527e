use Rattle.std.proofs.Common.{◌≡◌, ◌+◌, length, drop}
use Rattle.merge_jobs.specs.Job.{live_in_all}
use Rattle.merge_jobs.proofs.counted.live_roots_in.Given as goal

abbrev pub invariant-entries : goal.invariant-entries
invariant-entries l = l.live + length (live_in_all (drop l.entry-index l.entries)) ≡ length (live_in_all l.entries)
