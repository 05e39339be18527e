use Rattle.std.proofs.Common.{◌-◌, ◌≡◌, ◌++◌, ◌≤◌, take, drop, length}
use Rattle.flattener.specs.Walked.{first_name, behind_name}
use Rattle.inner_hits.proofs.along.first_name.Given as goal

abbrev pub invariant-bytes : goal.invariant-bytes
invariant-bytes l =
    (take l.at l.path ++ first_name (drop l.at l.path) ≡ first_name l.path)
    × (behind_name (drop l.at l.path) ≡ behind_name l.path)
    × (l.at ≤ length l.path)

abbrev pub decreases-bytes : goal.decreases-bytes
decreases-bytes l = length l.path - l.at
