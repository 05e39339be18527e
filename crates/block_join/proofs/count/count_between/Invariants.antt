use Rattle.std.proofs.Common.{◌≡◌, ◌+◌, ◌*◌, ◌/◌, ◌≤◌, take}
use Rattle.block_join.specs.Kept.{marks}
use Rattle.block_join.proofs.count.count_between.Given as goal

abbrev pub invariant-places : goal.invariant-places
invariant-places l = (marks (take (64 * (l.from / 64)) l.set) + l.total ≡ marks (take (64 * l.place) l.set)) × (l.from / 64 ≤ l.place) × (l.place ≤ l.end / 64)
