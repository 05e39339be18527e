use Rattle.std.proofs.Common.{◌≡◌, ◌<◌, ◌++◌, [], map, arith, sym, ap, ◌∙◌, append-nil, List}
use Rattle.tree_json.specs.Value.{value_size, members_size, members_of}
use Rattle.tree_json.specs.View.{view, entries}
use Rattle.mapping_body.specs.Body.{Property, properties_among}
use Rattle.mapping_growth.specs.Fields.{draft_paths, drafts_of}
use Rattle.mapping_growth.specs.Outline.{outline_of, outlined}
use Rattle.mapping_body.proofs.Walks.{properties_by_member, properties_found, member_size_at}
use Rattle.mapping_growth.proofs.property.+outlines.Goals as goal

pub outline_below-returns-in-None : goal.outline_below-returns-in-None
outline_below-returns-in-None t c =
    let none : properties_among c.args.path.now (members_of c.in-Object.object) ≡ [] =
    properties_by_member c.args.path.now (members_of c.in-Object.object) ∙ ap (properties_found c.args.path.now) (sym c.in-None.ensures) in
    rw c.in-Object.is
    (sym (ap (λ (more : List Property). map outline_of c.args.found.now.items ++ map (outlined (draft_paths (drafts_of c.args.said.now))) more) none ∙ append-nil _))

pub outline_named-outline_inside-requires : goal.outline_named-outline_inside-requires
outline_named-outline_inside-requires t c =
    let e = member_size_at c.args.members.now c.members.name-index c.members-item.result (omega arith) in
    let f : value_size (view c.members-item.result.1) < members_size (members_of (entries c.args.members.now)) = rw (← c.members-item.is) at e in
    omega (arith, f)
