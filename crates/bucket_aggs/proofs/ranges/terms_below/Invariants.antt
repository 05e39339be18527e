use Rattle.std.proofs.Common.{◌-◌}
use Rattle.bucket_aggs.proofs.Ranged.{Halved}
use Rattle.bucket_aggs.proofs.ranges.terms_below.Given as goal

abbrev pub invariant-search : goal.invariant-search
invariant-search l = Halved l.terms l.bound l.low l.high

abbrev pub decreases-search : goal.decreases-search
decreases-search l = l.high - l.low
