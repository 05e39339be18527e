use Rattle.std.proofs.Common.{◌≡◌, ◌++◌, drop}
use Rattle.merge_jobs.specs.Job.{segments_kept}
use Rattle.merge_jobs.specs.Open.{merges_shown}
use Rattle.merge_policy.specs.Runs.{counts_from}
use Rattle.view_merge.proofs.settle.counts_of_entries.Given as goal

abbrev pub invariant-entries : goal.invariant-entries
invariant-entries l = l.counts.items ++ counts_from (merges_shown l.merges) l.index (segments_kept (drop l.index l.entries)) ≡ counts_from (merges_shown l.merges) 0 (segments_kept l.entries)
