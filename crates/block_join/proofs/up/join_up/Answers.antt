use Rattle.std.proofs.Common.{ℕ, false, List, Option, Some, length, ap, ◌∙◌}
use Rattle.block_join.specs.Kept.{reached}
use Rattle.block_join.specs.Scores.{filled}
use Rattle.block_join.proofs.Holding.{length_filled}
use Rattle.block_join.proofs.Reaching.{joined_alike, length_reached, length_some}
use Rattle.block_join.proofs.up.join_up.Goals as goal

pub returns-in_ok-reached-in-Some-clause-scores : goal.returns-in_ok-reached-in-Some-clause-scores
returns-in_ok-reached-in-Some-clause-scores c = λ scopes to is.
    c.same.ensures
    ∙ ap (filled (Some c.in-Some.score)) (c.in_ok-reached-in-Some.ensures ∙ ap (reached false c.args.parents.now) c.set.ensures)
    ∙ joined_alike c.args.mode c.args.child.now c.in-Some.score c.args.parents.now c.in-Some.ensures.alike c.requires scopes to is

pub returns-in_ok-reached-in-Some-clause-long : goal.returns-in_ok-reached-in-Some-clause-long
returns-in_ok-reached-in-Some-clause-long c =
    ap (λ (ss : List (Option ℕ)). length ss) c.same.ensures
    ∙ length_filled (Some c.in-Some.score) c.in_ok-reached-in-Some.field-0
    ∙ ap length c.in_ok-reached-in-Some.ensures
    ∙ length_reached false c.args.parents.now c.set.result.now (ap length c.set.ensures ∙ length_some c.args.child.now ∙ c.requires)
