use Rattle.std.proofs.Common.{◌≡◌, ◌<◌, ◌≤◌, ◌^◌, length, drop}
use Rattle.merge_policy.specs.Policy.{evened_from, settling_in}
use Rattle.merge_policy.proofs.policy.evened.Given as goal

abbrev pub invariant-segments : goal.invariant-segments
invariant-segments l = (l.index ≤ length l.counts) × (settling_in l.behind ≡ evened_from l.factor l.index (drop l.index l.counts)) × (length l.counts < 2 ^ 64)

abbrev pub decreases-segments : goal.decreases-segments
decreases-segments l = l.index
