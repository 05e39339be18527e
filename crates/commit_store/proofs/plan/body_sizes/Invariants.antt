use Rattle.std.proofs.Common.{◌≡◌, ◌+◌, length, sum_by, drop}
use Rattle.commit_store.proofs.plan.body_sizes.Given as goal

abbrev pub invariant-bodies : goal.invariant-bodies
invariant-bodies l = l.size + sum_by (λ body. 4 + length body) (drop l.body-index l.bodies) ≡ sum_by (λ body. 4 + length body) l.bodies
