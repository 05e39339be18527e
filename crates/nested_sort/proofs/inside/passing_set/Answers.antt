use Rattle.std.proofs.Common.{◌≡◌, ℕ, Bool, List, false, get_or, IfNone, subst, sym, ◌∙◌}
use Rattle.query_eval.specs.Folds.{scopes_in}
use Rattle.nested_sort.proofs.Ways.{passing_found}
use Rattle.nested_sort.proofs.inside.passing_set.Goals as goal

pub returns-then-is_some-clause-none : goal.returns-then-is_some-clause-none
returns-then-is_some-clause-none c =
    subst (λ (flags : List Bool). IfNone c.first_set.result ((doc : ℕ) → get_or flags doc false ≡ false))
    (sym (passing_found c.args.place (scopes_in c.args.segment.now) c.args.step.now.scope c.args.step.now.filter c.args.filters.now (sym c.is_some.ensures ∙ c.if-is_some.true)))
    c.first_set.ensures.none
