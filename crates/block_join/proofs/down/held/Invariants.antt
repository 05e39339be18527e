use Rattle.std.proofs.Common.{◌-◌, length}
use Rattle.block_join.proofs.Holding.{Holding}
use Rattle.block_join.proofs.down.held.Given as goal

abbrev pub invariant-hits : goal.invariant-hits
invariant-hits l = Holding l.parents l.children l.hits l.set l.from

abbrev pub decreases-hits : goal.decreases-hits
decreases-hits l = length l.parents - l.from
