use Rattle.std.proofs.Common.{◌≡◌, ◌-◌}
use Rattle.block_join.proofs.Sets.{SpreadingSets}
use Rattle.block_join.proofs.down.spread_each.Given as goal

abbrev pub invariant-parents : goal.invariant-parents
invariant-parents l = (l.left.scores ≡ l.parent) × (l.hits.len ≡ l.len) × SpreadingSets l.parents l.children l.parent l.hits.done l.left.from

abbrev pub decreases-parents : goal.decreases-parents
decreases-parents l = l.len - l.left.from
