use Rattle.std.proofs.Common.{◌<◌, ◌≤◌, ◌-◌}
use Rattle.postings.specs.Search.{AreBelow}
use Rattle.postings.proofs.search.gallop.Given as goal

abbrev pub invariant-steps : goal.invariant-steps
invariant-steps l = (l.low ≤ l.count) × (0 < l.step) × AreBelow l.entries 0 l.low l.to

abbrev pub decreases-steps : goal.decreases-steps
decreases-steps l = l.count - l.low
