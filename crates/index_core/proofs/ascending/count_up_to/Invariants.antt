use Rattle.std.proofs.Common.{◌-◌}
use Rattle.index_core.specs.Found.{IsHalving}
use Rattle.index_core.proofs.ascending.count_up_to.Given as goal

abbrev pub invariant-halves : goal.invariant-halves
invariant-halves g l = IsHalving (g.N.Numbers.numbers l.fn.list) l.number l.low l.high

abbrev pub decreases-halves : goal.decreases-halves
decreases-halves g l = l.high - l.low
