use Rattle.std.proofs.Common.{sym, subst, ◌∙◌}
use Rattle.query_eval.specs.Found.{AreLong, IsSeen}
use Rattle.query_eval.specs.Nested.{around_by}
use Rattle.bucket_aggs.proofs.objects.below.Goals as goal

pub downs-requires : goal.downs-requires
downs-requires c = subst (AreLong c.args.entries.now) (sym (c.as_ref.ensures ∙ c.in_ok-kept.ensures)) c.requires

pub returns-clause-long : goal.returns-clause-long
returns-clause-long c = subst (AreLong c.args.entries.now) (sym c.made.ensures) c.in_ok-those.ensures.long

pub returns-clause-seen : goal.returns-clause-seen
returns-clause-seen c = λ m given above is.
    let view = c.args.entries.now in
    subst (IsSeen m view c.args.path (around_by c.args.scope given)) (sym c.made.ensures)
    (c.in_ok-those.ensures.seen m given above (subst (IsSeen m view c.args.scope given) (sym (c.as_ref.ensures ∙ c.in_ok-kept.ensures)) is))
