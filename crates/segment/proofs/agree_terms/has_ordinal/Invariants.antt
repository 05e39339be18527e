use Rattle.std.proofs.Common.{◌-◌}
use Rattle.segment.proofs.Halves.{AreHalved}
use Rattle.segment.proofs.agree_terms.has_ordinal.Given as goal

abbrev pub invariant-halves : goal.invariant-halves
invariant-halves l = AreHalved l.values l.ordinal l.low l.high

abbrev pub decreases-halves : goal.decreases-halves
decreases-halves l = l.high - l.low
