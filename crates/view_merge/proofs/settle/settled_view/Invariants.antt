use Rattle.view_merge.proofs.Ways.{IsSettling}
use Rattle.view_merge.proofs.settle.settled_view.Given as goal

abbrev pub invariant-runs : goal.invariant-runs
invariant-runs l = IsSettling l.entries l.made l.runs l.run-index l.view
