use Rattle.std.proofs.Common.{drop}
use Rattle.commit_store.specs.Placed.{IsPlanning}
use Rattle.commit_store.specs.Planned.{all_planned}
use Rattle.commit_store.proofs.plan.planned_in.Given as goal

abbrev pub invariant-entries : goal.invariant-entries
invariant-entries l = IsPlanning l.known (drop l.entry-index l.entries) l.entries l.fn.pool l.pool (all_planned l.segments.items)
