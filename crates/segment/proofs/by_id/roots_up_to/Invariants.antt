use Rattle.std.proofs.Common.{ℕ, ◌-◌, ◌<◌, ◌≤◌, length}
use Rattle.segment.specs.Ids.{rank, bound}
use Rattle.segment.proofs.by_id.roots_up_to.Given as goal

abbrev pub invariant-halves : goal.invariant-halves
invariant-halves l = record {
  ends : l.low ≤ l.high;
  within : l.high ≤ length l.order;
  before : (at : ℕ) → at < l.low → rank l.sources l.order l.id at < bound l.through;
  after : (at : ℕ) → l.high ≤ at → at < length l.order → bound l.through ≤ rank l.sources l.order l.id at;
}

abbrev pub decreases-halves : goal.decreases-halves
decreases-halves l = l.high - l.low
