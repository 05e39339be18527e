use Rattle.std.proofs.Common.{◌≡◌, ◌++◌, drop, take, map}
use Rattle.merge_policy.specs.Runs.{moved}
use Rattle.merge_jobs.specs.Open.{merges_shown}
use Rattle.merge_jobs.proofs.rows.move_behind.Given as goal

abbrev pub invariant-rows : goal.invariant-rows
invariant-rows l = merges_shown l.row-items ≡ map (moved l.runs) (take l.row-index (merges_shown l.fn.rows.items)) ++ drop l.row-index (merges_shown l.fn.rows.items)
