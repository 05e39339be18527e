use Rattle.std.proofs.Common.{◌<◌, ◌≤◌, ◌+◌, ◌-◌, ◌^◌, length, IfSome, Contains, cond}
use Rattle.postings.proofs.skips.last_before.Given as goal

abbrev pub invariant-steps : goal.invariant-steps
invariant-steps l =
    (l.near ≤ l.passed) × (l.passed ≤ length l.skips) × IfSome l.last (λ skip. Contains l.skips skip × (skip.document < l.to))

abbrev pub decreases-steps : goal.decreases-steps
decreases-steps l = cond l.grows (2 ^ 64 + (length l.skips - l.passed)) l.step
