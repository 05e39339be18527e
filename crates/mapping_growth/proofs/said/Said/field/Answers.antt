use Rattle.std.proofs.Common.{◌≡◌, ◌∙◌, sym, ap, subst, map, List, ℕ}
use Rattle.tree_json.specs.Value.{JsonValue}
use Rattle.tree_json.specs.View.{view}
use Rattle.mapping_growth.specs.Fields.{draft_paths, drafts_of}
use Rattle.mapping_body.specs.Names.{place_of}
use Rattle.mapping_body.specs.Order.{IsOrderFrom}
use Rattle.mapping_growth.proofs.Keeping.{paths_are}
use Rattle.mapping_growth.proofs.said.Said.field.Goals as goal

pub number_among-requires : goal.number_among-requires
number_among-requires g c =
    rw (c.as_slice.ensures.value, c.as_slice-2.ensures.value)
    (subst (λ (names : List (List ℕ)). IsOrderFrom 0 names c.self.inside.by_path.items) (paths_are (map view c.self.inside.bodies.items) c.self.inside.fields.items c.self.invariant.0.fields) c.self.invariant.0.paths)

pub returns-clause-number : goal.returns-clause-number
returns-clause-number g c =
    rw c.as_slice.ensures.value at c.number_among.ensures.place
    ∙ ap (place_of (g.S.Sought.sought c.args.path.now)) (sym (paths_are (map view c.self.inside.bodies.items) c.self.inside.fields.items c.self.invariant.0.fields))
    ∙ ap (λ (bs : List JsonValue). place_of (g.S.Sought.sought c.args.path.now) (draft_paths (drafts_of bs))) c.self.view_is
