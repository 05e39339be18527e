use Rattle.std.proofs.Common.{◌≡◌, ◌*◌, ◌≤◌, false, length, take}
use Rattle.block_join.specs.Kept.{marks, reached}
use Rattle.block_join.proofs.Reaching.{before}
use Rattle.block_join.proofs.reached_counts.reached_count.Given as goal

abbrev pub invariant-words : goal.invariant-words
invariant-words l = (l.count ≡ marks (take (64 * l.at) (reached false l.parents l.others))) × (64 * l.at ≤ length l.parents → l.some ≡ before l.parents l.others l.at)
