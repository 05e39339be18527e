use Rattle.std.proofs.Common.{◌≡◌, ◌+◌, ◌-◌, ◌≤◌, Some, map, length}
use Rattle.mapping_growth.specs.Kept.{relation_of}
use Rattle.mapping_growth.specs.Relations.{climbed}
use Rattle.mapping_growth.proofs.ancestor.line_ends.Given as goal

-- so many parents up
abbrev pub invariant-line : goal.invariant-line
invariant-line l = (l.steps ≤ length l.relations + 1) × (climbed l.steps (map relation_of l.relations) (Some l.number) ≡ l.at)

abbrev pub decreases-line : goal.decreases-line
decreases-line l = length l.relations + 1 - l.steps
