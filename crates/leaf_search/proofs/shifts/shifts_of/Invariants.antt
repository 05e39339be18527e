use Rattle.std.proofs.Common.{◌-◌, ◌<◌, ◌≤◌, length}
use Rattle.leaf_search.specs.Patterns.{AreShifts}
use Rattle.leaf_search.proofs.shifts.shifts_of.Given as goal

abbrev pub invariant-counts : goal.invariant-counts
invariant-counts l = (length l.shifts.items ≤ length l.words) × (0 < length l.shifts.items) × AreShifts l.words l.shifts.items

abbrev pub decreases-counts : goal.decreases-counts
decreases-counts l = length l.words - length l.shifts.items
