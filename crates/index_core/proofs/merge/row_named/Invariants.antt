use Rattle.std.proofs.Common.{◌≡◌, drop}
use Rattle.std.specs.List.{find}
use Rattle.layout.specs.Merges.{has_merge_id}
use Rattle.merge_jobs.specs.Open.{merges_shown}
use Rattle.index_core.proofs.merge.row_named.Given as goal

abbrev pub invariant-merges : goal.invariant-merges
invariant-merges l = find (has_merge_id l.id) (merges_shown (drop l.row-index l.merges)) ≡ find (has_merge_id l.id) (merges_shown l.merges)
