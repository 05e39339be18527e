use Rattle.std.proofs.Common.{None, refl, sym, subst, ◌∙◌}
use Rattle.query_eval.specs.Found.{IsSeen}
use Rattle.query_eval.specs.Keyed.{any_child_by}
use Rattle.query_eval.specs.Sides.{children_by}
use Rattle.score_math.specs.declared.score.ScoreMode.TheVariants.{Max}
use Rattle.bucket_aggs.proofs.Parents.{any_children_are}
use Rattle.bucket_aggs.proofs.across.parents_across.Goals as goal

pub returns-in-Some-clause-seen : goal.returns-in-Some-clause-seen
returns-in-Some-clause-seen c = λ given is.
    let m = c.args.mapping.now in
    let view = c.args.entries.now in
    let own = subst (IsSeen m view 0 given) (sym (c.as_ref-own.ensures ∙ c.in_ok-kept.ensures)) is in
    record {
      inner = any_child_by m c.args.relation given;
      seen = subst (IsSeen m view 0 (any_child_by m c.args.relation given)) (sym c.made.ensures) (c.in_ok-those-in-Some.ensures.seen given own);
      are = λ live. any_children_are m live c.args.relation given;
    }

pub returns-clause-seen : goal.returns-clause-seen
returns-clause-seen c = λ given is.
    let m = c.args.mapping.now in
    let view = c.args.entries.now in
    let own = subst (IsSeen m view 0 given) (sym (c.as_ref-own.ensures ∙ c.in_ok-kept.ensures)) is in
    record {
      inner = children_by m c.args.relation Max 1 None given;
      seen = subst (IsSeen m view 0 (children_by m c.args.relation Max 1 None given)) (sym c.made-in-None.ensures) (c.in_ok-those-in-None.ensures.seen given own);
      are = λ live. refl;
    }
