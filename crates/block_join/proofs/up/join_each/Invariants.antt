use Rattle.std.proofs.Common.{◌≡◌, ◌-◌}
use Rattle.block_join.proofs.Sets.{JoiningSets}
use Rattle.block_join.proofs.up.join_each.Given as goal

abbrev pub invariant-parents : goal.invariant-parents
invariant-parents l = (l.left.scores ≡ l.child) × (l.hits.len ≡ l.len) × JoiningSets l.mode l.parents l.child l.hits.done l.left.from

abbrev pub decreases-parents : goal.decreases-parents
decreases-parents l = l.len - l.left.from
