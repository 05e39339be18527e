use Rattle.std.proofs.Common.{Bool, List, length, Some, sym, ap, ◌∙◌}
use Rattle.block_bits.specs.Flags.{intersection}
use Rattle.block_join.specs.Merge.{paired, put_together}
use Rattle.block_join.specs.Scores.{filled}
use Rattle.block_join.specs.declared.rule.Rule.TheVariants.{Kept}
use Rattle.query_eval.proofs.Cutting.{cut_sets}
use Rattle.query_eval.proofs.Seen.{length_filled}
use Rattle.query_eval.proofs.kept.cut_to.Goals as goal

pub returns-in-Some : goal.returns-in-Some
returns-in-Some c =
    c.same.ensures
    ∙ ap (filled (Some c.in-Some.score)) c.and.ensures
    ∙ ap (λ (others : List Bool). filled (Some c.in-Some.score) (intersection c.args.set others)) c.set.ensures
    ∙ cut_sets c.args.hits.now c.in-Some.score c.in-Some.ensures.alike c.args.set

pub merged-requires : goal.merged-requires
merged-requires c = c.requires ∙ sym (ap length c.same-in-None.ensures ∙ length_filled (Some 1) c.args.set)

pub returns-in_ok-merged-in-None : goal.returns-in_ok-merged-in-None
returns-in_ok-merged-in-None c = c.in_ok-merged-in-None.ensures.scores ∙ ap (paired (put_together Kept) c.args.hits.now) c.same-in-None.ensures
