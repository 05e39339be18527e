use Rattle.std.proofs.Common.{◌≡◌, ◌++◌, length}
use Rattle.nested_sort.proofs.inside.add.Given as goal

abbrev pub invariant-values : goal.invariant-values
invariant-values g l = l.values.items ++ l.left ≡ l.fn.values.items ++ l.fn.left

abbrev pub decreases-values : goal.decreases-values
decreases-values g l = length l.left
