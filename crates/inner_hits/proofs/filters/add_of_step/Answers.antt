use Rattle.std.proofs.Common.{◌++◌, ℕ, List, [], ◌∷◌, Option, sym, subst}
use Rattle.nested_sort.specs.Filters.{AreFound, filter_at, filter_of}
use Rattle.query_ast.specs.Clause.{Clause}
use Rattle.query_eval.specs.Found.{IsFound}
use Rattle.inner_hits.proofs.Found.{found_more}
use Rattle.inner_hits.proofs.filters.add_of_step.Goals as goal

pub returns-in_ok-push-clause-found : goal.returns-in_ok-push-clause-found
returns-in_ok-push-clause-found g c = λ before were.
    let m = c.args.mapping.now in
    let view = c.args.view.now in
    let scope = c.args.step.now.scope in
    let had = c.args.found.now.items in
    let own : IsFound m view scope c.in-Some.filter c.in_ok-own.own = subst (λ (q : Clause). IsFound m view scope q c.in_ok-own.own) c.get.ensures c.in_ok-own.ensures.found in
    subst (λ (found : List (List (List (Option ℕ)))). AreFound m view (before ++ filter_of c.args.step.now) found) (sym c.in_ok-push.ensures.items)
    (subst (λ (filter : Option Clause). AreFound m view (before ++ filter_at scope filter) (had ++ c.in_ok-own.own ∷ [])) (sym c.in-Some.is)
    (found_more m view before had scope c.in-Some.filter c.in_ok-own.own were own))
