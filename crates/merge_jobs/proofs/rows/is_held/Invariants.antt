use Rattle.std.proofs.Common.{◌≡◌, drop}
use Rattle.std.specs.List.{list_any}
use Rattle.layout.specs.Layout.{covers}
use Rattle.merge_jobs.specs.Open.{merges_shown}
use Rattle.merge_jobs.proofs.rows.is_held.Given as goal

abbrev pub invariant-rows : goal.invariant-rows
invariant-rows l = list_any (covers l.index) (merges_shown (drop l.row-index l.rows)) ≡ list_any (covers l.index) (merges_shown l.rows)
