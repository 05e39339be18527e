use Rattle.std.proofs.Common.{◌≡◌, ◌+◌, drop}
use Rattle.std.specs.List.{count_by}
use Rattle.merge_policy.specs.Runs.{ends_before}
use Rattle.merge_jobs.proofs.rows.count_before.Given as goal

abbrev pub invariant-runs : goal.invariant-runs
invariant-runs l = l.count + count_by (ends_before l.index) (drop l.run-index l.runs) ≡ count_by (ends_before l.index) l.runs
