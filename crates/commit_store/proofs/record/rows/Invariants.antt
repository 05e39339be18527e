use Rattle.std.proofs.Common.{◌≡◌, ◌++◌, map, drop}
use Rattle.commit_store.specs.Planned.{all_planned}
use Rattle.commit_store.specs.Rows.{planned_row}
use Rattle.commit_store.proofs.record.rows.Given as goal

abbrev pub invariant-segments : goal.invariant-segments
invariant-segments l = l.rows.items ++ map planned_row (all_planned (drop l.segment-index l.segments)) ≡ map planned_row (all_planned l.segments)
