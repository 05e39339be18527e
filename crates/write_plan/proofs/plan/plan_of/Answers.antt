use Rattle.std.proofs.Common.{◌≡◌, Err, ap, refl, ◌∙◌}
use Rattle.std.proofs.lemmas.Result.{err_from_is_err_and}
use Rattle.tree_json.specs.View.{view}
use Rattle.machine.specs.Write.{added_body}
use Rattle.write_plan.specs.declared.refusal.PlanRefusal.TheVariants.{Refused}
use Rattle.write_plan.proofs.Refusals.{err_in, source_refused}
use Rattle.write_plan.proofs.plan.plan_of.Goals as goal

pub returns-in_err-block-clause-refused : goal.returns-in_err-block-clause-refused
returns-in_err-block-clause-refused c = λ why short err.
    let e = err_from_is_err_and c.from_residual-in_err-block.result c.from_residual-in_err-block.ensures.1 in
    let same : c.from_residual-in_err-block.result ≡ Err c.in_err-block.field-0.0 = e.1 ∙ ap Err e.2 in
    source_refused c.args.mapping.now c.later.result.now (added_body c.args.mapping.now (view c.args.source.now)) c.args.id.now (view c.args.source.now) c.args.number why short
    (c.in_ok-grown.ensures.accepted refl) (c.later.ensures ∙ c.in_ok-grown.ensures.mapping)
    (c.in_err-block.ensures.refused why short (ap Err (err_in c.from_residual-in_err-block.result c.in_err-block.field-0.0 (Refused why) same err)))
