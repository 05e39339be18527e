use Rattle.std.proofs.Common.{sym, ap, ◌∙◌}
use Rattle.block_join.specs.Scores.{Standing}
use Rattle.block_join.specs.Sums.{summed}
use Rattle.block_join.specs.declared.parts.Parts.{Parts}
use Rattle.block_join.proofs.Totals.{kept_len, kept_view}
use Rattle.block_join.proofs.Summing.{summing_one, summing_more, summing_bounded}
use Rattle.block_join.proofs.cursor.Cursor.mode_before.Goals as goal

pub scores-init : goal.scores-init
scores-init c =
    rw c.from-total.ensures
    (summing_one c.args.self.now c.next_before.new.self c.args.end c.in_ok-first.first c.in_ok-first.ensures.scores c.in_ok-first.ensures.score c.in_ok-first.ensures.capped c.in_ok-first.ensures.later.0 c.in_ok-first.ensures.later.1)

pub scores-preserved : goal.scores-preserved
scores-preserved c =
    rw (c.from-total-in-Some.ensures, c.min-least.ensures, c.max-greatest.ensures)
    (summing_more c.args.self.now c.scores.self c.next_before-in-scores.new.self c.args.end c.scores.total c.scores.count c.scores.least c.scores.greatest c.in-Some.score c.scores.invariant
    c.in-Some.ensures.scores c.in-Some.ensures.score c.in-Some.ensures.capped c.in-Some.ensures.later.0 c.in-Some.ensures.later.1)

pub combine-requires-clause-total_bounded : goal.combine-requires-clause-total_bounded
combine-requires-clause-total_bounded c =
    summing_bounded c.args.self.now c.scores.self c.args.end c.scores.total c.scores.count c.scores.least c.scores.greatest c.scores.invariant

pub sum_before-requires-clause-sums : goal.sum_before-requires-clause-sums
sum_before-requires-clause-sums c =
    sym (ap summed c.deref.ensures ∙ kept_view c.self.inside.walk.documents c.self.inside.form.now c.in-Summed.parts c.in-Summed.is c.self.invariant.scores_are c.args.self.now.scores (ap (λ (it : Standing). it.scores) c.self.view_is))

pub sum_before-requires-clause-len : goal.sum_before-requires-clause-len
sum_before-requires-clause-len c =
    ap (λ (p : Parts). p.len) c.deref.ensures ∙ kept_len c.self.inside.walk.documents c.self.inside.form.now c.in-Summed.parts c.in-Summed.is c.self.invariant.scores_are c.args.self.now.scores (ap (λ (it : Standing). it.scores) c.self.view_is)
