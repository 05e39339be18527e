use Rattle.std.proofs.Common.{◌≡◌, drop}
use Rattle.std.specs.List.{find}
use Rattle.layout.specs.Merges.{shares}
use Rattle.merge_jobs.specs.Open.{merges_shown}
use Rattle.merge_jobs.proofs.rows.overlapping.Given as goal

abbrev pub invariant-rows : goal.invariant-rows
invariant-rows l = find (shares l.from l.count) (merges_shown (drop l.row-index l.rows)) ≡ find (shares l.from l.count) (merges_shown l.rows)
