use Rattle.std.proofs.Common.{◌≡◌, ◌<◌, ◌^◌, ◌++◌, ◌∷◌, [], ◌∙◌, sym, ap, subst, map, length, arith, List, ℕ}
use Rattle.std.proofs.lemmas.Grind.{common_steps}
use Rattle.tree_json.specs.Value.{JsonValue}
use Rattle.tree_json.specs.View.{view}
use Rattle.mapping_growth.specs.Kept.{AreCounts, IsKept}
use Rattle.mapping_growth.proofs.Keeping.{kept_by_orders}
use Rattle.mapping_growth.proofs.taken.said_with.Goals as goal

pub invariant_of-result : goal.invariant_of-result
invariant_of-result c =
    let few_fields : length c.in_ok-fields.fields.items < 2 ^ 32 = grind (arith, common_steps) in
    let few_relations : length c.args.relations.items < 2 ^ 32 = grind (arith, common_steps) in
    rw c.in_ok-bodies.ensures (
      kept_by_orders (c.args.said.now ++ view c.args.candidate.now.body.now ∷ []) c.in_ok-fields.fields.items c.in_ok-by_path.by_path.items c.args.relations.items c.in_ok-by_name.by_name.items
          c.in_ok-fields.ensures c.requires.relations (rw c.as_slice.ensures.value at c.in_ok-by_path.ensures) (rw c.as_slice-2.ensures.value at c.in_ok-by_name.ensures) few_fields few_relations,
      c.requires.counts,
    )
