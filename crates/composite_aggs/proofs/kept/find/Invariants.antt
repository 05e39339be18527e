use Rattle.std.proofs.Common.{ℕ, ◌<◌, ◌≤◌, ◌-◌, length, map}
use Rattle.composite_aggs.specs.Kept.{IsLowerAt, IsHigherAt, bucket_of}
use Rattle.composite_aggs.proofs.kept.find.Given as goal

abbrev pub invariant-halves : goal.invariant-halves
invariant-halves l =
    (l.low ≤ l.high) × (l.high ≤ length l.kept)
    × ((k : ℕ) → k < l.low → IsLowerAt (map (λ v. v.now) l.key) k (map bucket_of l.kept))
    × ((k : ℕ) → l.high ≤ k → k < length l.kept → IsHigherAt (map (λ v. v.now) l.key) k (map bucket_of l.kept))

abbrev pub decreases-halves : goal.decreases-halves
decreases-halves l = l.high - l.low
