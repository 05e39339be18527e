use Rattle.std.proofs.Common.{◌≡◌, ℕ, Some, is_some, map, subst, sym}
use Rattle.block_join.specs.Scores.{filled}
use Rattle.block_join.proofs.Shown.{shared_is}
use Rattle.block_join.proofs.scored.Scored.shared.Goals as goal

pub returns-clause-alike : goal.returns-clause-alike
returns-clause-alike c =
    subst (λ (score : ℕ). c.args.self.now ≡ filled (Some score) (map is_some c.args.self.now)) (sym c.min.ensures)
    (shared_is c.self.inside.set c.self.inside.form c.in_ok-score.score c.args.self.now c.in_ok-score.ensures c.self.invariant c.self.view_is)
