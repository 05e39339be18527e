use Rattle.std.proofs.Common.{length}
use Rattle.tree_json.specs.View.{entries}
use Rattle.json_merge.specs.Coming.{Carries}
use Rattle.json_merge.proofs.merge.put_before.Given as goal

abbrev pub invariant-members : goal.invariant-members
invariant-members l =
    Carries l.name (entries l.fn.found.items) (entries l.fn.coming.items) (entries l.found.items) (entries l.coming.items)

abbrev pub decreases-members : goal.decreases-members
decreases-members l = length l.coming.items
