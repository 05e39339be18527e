use Rattle.std.proofs.Common.{◌<◌, ◌^◌, subst, length, arith, List}
use Rattle.std.proofs.lemmas.Grind.{common_steps}
use Rattle.tree_json.specs.Value.{JsonValue}
use Rattle.mapping_growth.specs.Bodies.{AreBodies}
use Rattle.mapping.proofs.Founded.{is_mapping, kept}
use Rattle.mapping.proofs.mapping.built.Goals as goal

are : (c : goal.In_ok-by_path) → AreBodies c.args.bodies
are c = subst (λ (bs : List JsonValue). AreBodies bs) c.bodies.view_is c.bodies.invariant

pub invariant_of-result : goal.invariant_of-result
invariant_of-result c =
    let few : length c.in_ok-paths.paths.items < 2 ^ 32 = grind (arith, common_steps) in
    kept c.args.bodies c.args.dynamic c.fields-drafts.result.now c.in_ok-homes.homes.items c.in_ok-paths.paths.items c.in_ok-scopes.scopes.items c.in_ok-by_path.by_path.items (are c) c.fields-drafts.ensures.fields
    c.in_ok-paths.ensures c.in_ok-scopes.ensures (rw c.as_slice-items.ensures.value at c.in_ok-homes.ensures) (rw c.as_slice-items.ensures.value at c.in_ok-by_path.ensures) few

pub returns-clause-is_mapping : goal.returns-clause-is_mapping
returns-clause-is_mapping c = is_mapping c.args.bodies c.args.dynamic (are c)
