use Rattle.std.proofs.Common.{ℕ, List, sym, subst}
use Rattle.tree_json.specs.View.{view}
use Rattle.mapping.specs.Mapping.{Mapping}
use Rattle.mapping.specs.Reached.{AreReached}
use Rattle.flattener.specs.Named.{Misses, fields_below}
use Rattle.flattener.proofs.Named.{shows_nothing}
use Rattle.flattener.proofs.fields.fill_named.Goals as goal

pub fill_marked-requires-clause-others : goal.fill_marked-requires-clause-others
fill_marked-requires-clause-others c =
    let m : Mapping = c.args.mapping.now in
    let bodies = c.generation-generations.ensures in
    let reached : AreReached m = subst AreReached (sym bodies.mapping) (c.names_lead_to_fields.ensures m.bodies m.dynamic bodies.bodies) in
    λ f h missed.
    let misses = (c.mark_below.ensures.marked f missed tt).0 in
    shows_nothing m c.args.generation f c.args.scope (view c.args.content.now) c.scope_count-scopes.ensures.is_mapping reached h
    (subst (λ (p : List ℕ). Misses f (fields_below m c.args.generation p (view c.args.content.now))) c.scope_path.ensures misses)
