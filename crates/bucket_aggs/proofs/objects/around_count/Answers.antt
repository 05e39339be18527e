use Rattle.std.proofs.Common.{sym, subst, ◌∙◌}
use Rattle.query_eval.specs.Found.{AreLong, IsSeen}
use Rattle.bucket_aggs.proofs.objects.around_count.Goals as goal

pub up_count-requires : goal.up_count-requires
up_count-requires c = subst (AreLong c.args.entries.now) (sym (c.as_ref.ensures ∙ c.in_ok-kept.ensures)) c.requires

pub returns : goal.returns
returns c = λ m from given above is.
    c.in_ok-up_count.ensures m from given above (subst (IsSeen m c.args.entries.now from given) (sym (c.as_ref.ensures ∙ c.in_ok-kept.ensures)) is)
