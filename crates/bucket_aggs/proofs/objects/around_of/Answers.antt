use Rattle.std.proofs.Common.{sym, subst, ◌∙◌}
use Rattle.query_eval.specs.Found.{AreLong, IsSeen}
use Rattle.query_eval.specs.Nested.{below_by}
use Rattle.score_math.specs.Scores.{mode_of}
use Rattle.score_math.specs.declared.score.ScoreMode.TheVariants.{Max}
use Rattle.bucket_aggs.proofs.objects.around_of.Goals as goal

pub ups-requires : goal.ups-requires
ups-requires c = subst (AreLong c.args.entries.now) (sym (c.as_ref.ensures ∙ c.in_ok-kept.ensures)) c.requires

pub returns-clause-long : goal.returns-clause-long
returns-clause-long c = subst (AreLong c.args.entries.now) (sym c.made.ensures) c.in_ok-those.ensures.long

pub returns-clause-seen : goal.returns-clause-seen
returns-clause-seen c = λ m from given above is.
    let view = c.args.entries.now in
    subst (IsSeen m view c.args.path (below_by m (mode_of Max) from given)) (sym c.made.ensures)
    (c.in_ok-those.ensures.seen m from given above (subst (IsSeen m view from given) (sym (c.as_ref.ensures ∙ c.in_ok-kept.ensures)) is))
