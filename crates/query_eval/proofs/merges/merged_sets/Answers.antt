use Rattle.std.proofs.Common.{ℕ, ◌+◌, Some, sym, ap, ◌∙◌}
use Rattle.block_join.specs.Merge.{paired, put_together}
use Rattle.block_join.specs.Scores.{filled}
use Rattle.block_join.specs.declared.rule.Rule.{Rule}
use Rattle.score_math.specs.Scores.{capped}
use Rattle.query_eval.proofs.Sets.{both_sets, kept_sets, without_sets}
use Rattle.query_eval.proofs.merges.merged_sets.Goals as goal

pub returns-in_ok-set-in-Both : goal.returns-in_ok-set-in-Both
returns-in_ok-set-in-Both c =
    c.same.ensures
    ∙ ap (λ (n : ℕ). filled (Some n) c.in_ok-set-in-Both.set) c.cap_add.ensures
    ∙ ap (filled (Some (capped (c.in-Some.first + c.in-Some-shared.second)))) c.in_ok-set-in-Both.ensures
    ∙ both_sets c.args.one.now c.args.other.now c.in-Some.first c.in-Some.ensures.alike c.in-Some-shared.second c.in-Some-shared.ensures.alike
    ∙ ap (λ (rule : Rule). paired (put_together rule) c.args.one.now c.args.other.now) (sym c.in-Both.is)

pub returns-in_ok-set-in-Kept : goal.returns-in_ok-set-in-Kept
returns-in_ok-set-in-Kept c =
    c.same-in-Kept.ensures
    ∙ ap (filled (Some c.in-Some.first)) c.in_ok-set-in-Kept.ensures
    ∙ kept_sets c.args.one.now c.args.other.now c.in-Some.first c.in-Some.ensures.alike
    ∙ ap (λ (rule : Rule). paired (put_together rule) c.args.one.now c.args.other.now) (sym c.in-Kept.is)

pub returns-in_ok-set-in-Without : goal.returns-in_ok-set-in-Without
returns-in_ok-set-in-Without c =
    c.same-in-Without.ensures
    ∙ ap (filled (Some c.in-Some.first)) c.in_ok-set-in-Without.ensures
    ∙ without_sets c.args.one.now c.args.other.now c.in-Some.first c.in-Some.ensures.alike
    ∙ ap (λ (rule : Rule). paired (put_together rule) c.args.one.now c.args.other.now) (sym c.in-Without.is)
