use Rattle.std.proofs.Common.{◌≡◌, ◌-◌, ◌≤◌, ◌≤ℤ◌, ◌∷◌, ◌++◌, [], length}
use Rattle.std.specs.Prelude.{Contains}
use Rattle.calendar_intervals.specs.Starts.{starts}
use Rattle.composite_aggs.specs.Spread.{starts_from_to}
use Rattle.composite_aggs.proofs.between.starts_between.Given as goal

abbrev pub invariant-starts : goal.invariant-starts
invariant-starts l =
    (l.walk.items ++ l.at ∷ [] ≡ starts_from_to l.interval l.least l.at)
    × Contains (starts l.interval) l.at
    × (l.least ≤ℤ l.at)
    × (l.at ≤ℤ l.greatest)
    × (length l.walk.items ≤ 10_000)

abbrev pub decreases-starts : goal.decreases-starts
decreases-starts l = 10_000 - length l.walk.items
