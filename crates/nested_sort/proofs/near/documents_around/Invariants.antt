use Rattle.std.proofs.Common.{◌-◌, ◌≤◌, length}
use Rattle.nested_sort.specs.Near.{HaveNone}
use Rattle.nested_sort.proofs.near.documents_around.Given as goal

abbrev pub invariant-inner : goal.invariant-inner
invariant-inner l = HaveNone l.parents l.inner l.from l.set × (l.from ≤ length l.parents)

abbrev pub decreases-inner : goal.decreases-inner
decreases-inner l = length l.parents - l.from
