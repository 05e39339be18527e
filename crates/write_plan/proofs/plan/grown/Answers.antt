use Rattle.std.proofs.Common.{◌≡◌, Bool, true, cond, None, Some, option_map, ap, sym, refl, ◌∙◌, rules, arith}
use Rattle.tree_json.specs.View.{view}
use Rattle.source_growth.specs.Growth.{growth}
use Rattle.machine.specs.Write.{added_body}
use Rattle.write_plan.proofs.Planning.{body_grown}
use Rattle.write_plan.proofs.plan.grown.Goals as goal

pub with_body-requires-clause-form : goal.with_body-requires-clause-form
with_body-requires-clause-form c =
    (c.growth_is_taken.ensures c.args.mapping.now (view c.args.source.now) (view c.in-Some.body) c.scope_count-scopes.ensures.is_mapping c.generation-generation.ensures.bodies c.generation-generation.ensures.mapping
    (sym c.in_ok-seen.ensures ∙ ap (λ body. option_map view body) c.in-Some.is)).0

pub with_body-requires-clause-agrees : goal.with_body-requires-clause-agrees
with_body-requires-clause-agrees c =
    (c.growth_is_taken.ensures c.args.mapping.now (view c.args.source.now) (view c.in-Some.body) c.scope_count-scopes.ensures.is_mapping c.generation-generation.ensures.bodies c.generation-generation.ensures.mapping
    (sym c.in_ok-seen.ensures ∙ ap (λ body. option_map view body) c.in-Some.is)).1

pub with_body-requires-clause-adds : goal.with_body-requires-clause-adds
with_body-requires-clause-adds c =
    (c.growth_is_taken.ensures c.args.mapping.now (view c.args.source.now) (view c.in-Some.body) c.scope_count-scopes.ensures.is_mapping c.generation-generation.ensures.bodies c.generation-generation.ensures.mapping
    (sym c.in_ok-seen.ensures ∙ ap (λ body. option_map view body) c.in-Some.is)).2

pub returns-in_ok-with_body-in-Some-clause-later : goal.returns-in_ok-with_body-in-Some-clause-later
returns-in_ok-with_body-in-Some-clause-later c = λ _.
    let m = c.args.mapping.now in
    let on : c.args.mapping.now.dynamic ≡ true = first_of (cc, search rules, grind arith) in
    let adds : growth c.args.mapping.now (view c.args.source.now) ≡ Some (view c.in-Some.body) = sym c.in_ok-seen.ensures ∙ ap (λ body. option_map view body) c.in-Some.is in
    let added : added_body c.args.mapping.now (view c.args.source.now) ≡ Some (view c.in-Some.body) = ap (λ (b : Bool). cond b (growth c.args.mapping.now (view c.args.source.now)) None) on ∙ adds in
    body_grown c.further_bodies_stand_behind.ensures m (view c.args.source.now) (view c.in-Some.body) c.generation-generation.ensures.bodies c.generation-generation.ensures.mapping added
    (c.growth_is_taken.ensures m (view c.args.source.now) (view c.in-Some.body) c.scope_count-scopes.ensures.is_mapping c.generation-generation.ensures.bodies c.generation-generation.ensures.mapping adds).0
    (c.in_ok-with_body-in-Some.ensures.is_mapping refl)
