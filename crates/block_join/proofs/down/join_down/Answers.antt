use Rattle.std.proofs.Common.{ℕ, List, Option, Some, length, ap, ◌∙◌}
use Rattle.block_join.proofs.Holding.{length_filled}
use Rattle.block_join.proofs.down.join_down.Goals as goal

pub returns-in_ok-held-in-Some-clause-long : goal.returns-in_ok-held-in-Some-clause-long
returns-in_ok-held-in-Some-clause-long c =
    ap (λ (ss : List (Option ℕ)). length ss) c.same.ensures
    ∙ length_filled (Some c.in-Some.score) c.in_ok-held-in-Some.field-0
    ∙ c.in_ok-held-in-Some.ensures.long
