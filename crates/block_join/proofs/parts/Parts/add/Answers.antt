use Rattle.std.proofs.Common.{ℕ, Option, None, replicate, ap, ◌∙◌}
use Rattle.block_join.specs.Sums.{summed_from}
use Rattle.block_join.proofs.Totals.{summed_more}
use Rattle.block_join.proofs.parts.Parts.add.Goals as goal

pub returns-clause-sums : goal.returns-clause-sums
returns-clause-sums c =
    ap (summed_from (replicate {A = Option ℕ} c.args.self.now.len None)) c.in_ok-push.ensures.items
    ∙ summed_more (replicate {A = Option ℕ} c.args.self.now.len None) c.args.self.now.parts.items (record { set = c.args.set; score = c.args.score })
