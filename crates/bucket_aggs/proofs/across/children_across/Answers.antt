use Rattle.std.proofs.Common.{sym, subst, ◌∙◌}
use Rattle.query_eval.specs.Found.{IsSeen}
use Rattle.query_eval.specs.Sides.{by_relation}
use Rattle.bucket_aggs.proofs.across.children_across.Goals as goal

pub returns-in-Some-clause-seen : goal.returns-in-Some-clause-seen
returns-in-Some-clause-seen c = λ given is.
    let m = c.args.mapping.now in
    let view = c.args.entries.now in
    subst (IsSeen m view 0 (by_relation m c.args.relation given)) (sym c.made.ensures)
    (c.in_ok-those-in-Some.ensures.seen given (subst (IsSeen m view 0 given) (sym (c.as_ref-own.ensures ∙ c.in_ok-kept.ensures)) is))

pub returns-clause-seen : goal.returns-clause-seen
returns-clause-seen c = λ given is.
    let m = c.args.mapping.now in
    let view = c.args.entries.now in
    subst (IsSeen m view 0 (by_relation m c.args.relation given)) (sym c.made-in-None.ensures)
    (c.in_ok-those-in-None.ensures.seen given (subst (IsSeen m view 0 given) (sym (c.as_ref-own.ensures ∙ c.in_ok-kept.ensures)) is))
