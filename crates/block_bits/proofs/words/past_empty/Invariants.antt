use Rattle.std.proofs.Common.{◌≡◌, ℕ, ◌-◌, ◌<◌, ◌≤◌, slice_index}
use Rattle.block_bits.proofs.words.past_empty.Given as goal

abbrev pub invariant-runs : goal.invariant-runs
invariant-runs l = record {
  behind : l.at ≤ l.far;
  none : (place : ℕ) → l.at < place → place ≤ l.far → slice_index l.words place ≡ 0;
}

abbrev pub decreases-runs : goal.decreases-runs
decreases-runs l = l.last - l.far
