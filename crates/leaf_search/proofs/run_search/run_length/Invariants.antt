use Rattle.std.proofs.Common.{◌-◌, ◌≤◌, length}
use Rattle.leaf_search.specs.Patterns.{IsRun, positions_in}
use Rattle.leaf_search.proofs.run_search.run_length.Given as goal

abbrev pub invariant-words : goal.invariant-words
invariant-words l = (l.count ≤ length l.words) × IsRun (positions_in l.cursors) l.words l.start l.count

abbrev pub decreases-words : goal.decreases-words
decreases-words l = length l.words - l.count
