use Rattle.std.proofs.Common.{sym, subst, ◌∙◌}
use Rattle.block_join.specs.declared.rule.Rule.TheVariants.{Kept}
use Rattle.query_ast.specs.Clause.View.{clause_of}
use Rattle.query_eval.specs.Folds.{paired_by}
use Rattle.query_eval.specs.Found.{IsSeen, score_by}
use Rattle.bucket_aggs.proofs.objects.filtered.Goals as goal

pub returns-in-Some-clause-seen : goal.returns-in-Some-clause-seen
returns-in-Some-clause-seen c = λ given is.
    let m = c.args.mapping.now in
    let view = c.args.entries.now in
    let asked = score_by m (clause_of c.args.query.now) in
    let own = subst (IsSeen m view c.args.scope given) (sym (c.as_ref-own.ensures ∙ c.in_ok-kept.ensures)) is in
    subst (IsSeen m view c.args.scope (paired_by Kept given asked)) (sym c.made.ensures)
    (c.in_ok-those-in-Some.ensures.seen m c.args.scope given asked own (rw c.in-Some.is at c.requires.known))

pub returns-clause-seen : goal.returns-clause-seen
returns-clause-seen c = λ given is.
    let m = c.args.mapping.now in
    let view = c.args.entries.now in
    let asked = score_by m (clause_of c.args.query.now) in
    let own = subst (IsSeen m view c.args.scope given) (sym (c.as_ref-own.ensures ∙ c.in_ok-kept.ensures)) is in
    subst (IsSeen m view c.args.scope (paired_by Kept given asked)) (sym c.made-in-None.ensures)
    (c.in_ok-those-in-None.ensures.seen m c.args.scope given asked own c.in_ok-hits-in-None.ensures)
