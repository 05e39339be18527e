use Rattle.std.proofs.Common.{◌+◌, ◌-◌}
use Rattle.leaf_search.proofs.Shifting.{IsMoved}
use Rattle.leaf_search.proofs.shifts.next_shift.Given as goal

abbrev pub invariant-shifts : goal.invariant-shifts
invariant-shifts l = IsMoved l.words l.last l.shift

abbrev pub decreases-shifts : goal.decreases-shifts
decreases-shifts l = l.last + 1 - l.shift
