use Rattle.std.proofs.Common.{◌≡◌, ◌∙◌, sym, ap, subst, map, List, ℕ}
use Rattle.tree_json.specs.Value.{JsonValue}
use Rattle.tree_json.specs.View.{view}
use Rattle.mapping_body.specs.Names.{place_of}
use Rattle.mapping_body.specs.Order.{IsOrderFrom}
use Rattle.mapping_growth.specs.Relations.{relation_names, relations_of}
use Rattle.mapping_growth.proofs.Keeping.{names_are}
use Rattle.mapping_growth.proofs.said.Said.relation.Goals as goal

pub number_among-requires : goal.number_among-requires
number_among-requires c =
    rw (c.as_slice.ensures.value, c.as_slice-2.ensures.value)
    (subst (λ (names : List (List ℕ)). IsOrderFrom 0 names c.self.inside.by_name.items) (names_are (map view c.self.inside.bodies.items) c.self.inside.relations.items c.self.invariant.0.relations) c.self.invariant.0.names)

pub returns-clause-number : goal.returns-clause-number
returns-clause-number c =
    rw c.as_slice.ensures.value at c.number_among.ensures.place
    ∙ ap (place_of c.args.name.now) (sym (names_are (map view c.self.inside.bodies.items) c.self.inside.relations.items c.self.invariant.0.relations))
    ∙ ap (λ (bs : List JsonValue). place_of c.args.name.now (relation_names (relations_of bs))) c.self.view_is
