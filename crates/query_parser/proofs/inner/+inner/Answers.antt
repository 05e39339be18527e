use Rattle.std.proofs.Common.{◌≡◌, ◌∙◌, ◌++◌, ◌<◌, List, [], append-nil, ap, arith, map, sym}
use Rattle.std.proofs.lemmas.Grind.{common_steps}
use Rattle.tree_json.specs.Value.{value_size, members_size, members_of}
use Rattle.tree_json.specs.View.{view, entries}
use Rattle.query_ast.specs.Definition.{Definition}
use Rattle.query_ast.specs.Inner.{Inner}
use Rattle.query_ast.specs.Inner.View.{inner_of}
use Rattle.search_form.specs.Sizes.{member_falls, sizes}
use Rattle.search_walk.specs.Names.{scope_inside}
use Rattle.query_parser.specs.InnerHits.{inner_among, owned_by}
use Rattle.query_parser.specs.Known.{known_of}
use Rattle.query_parser.proofs.Known.{elements_built, members_built, own_built}
use Rattle.query_parser.proofs.NoInner.{no_inner_among}
use Rattle.query_parser.proofs.inner.+inner.Goals as goal

pub inner_among-inner_part-requires : goal.inner_among-inner_part-requires
inner_among-inner_part-requires t c =
    let e = member_falls c.args.members.now c.members.name-index c.members-item.result (omega arith) in
    let f : value_size (view c.members-item.result.1) < members_size (members_of (entries c.args.members.now)) = rw (← c.members-item.is) at e in
    (omega (arith, f), rw c.as_slice.ensures.bytes (c.requires c.members.name-index c.members-item.result (omega arith) c.members-item.is))

-- what was built of a list, of an object's members and of a clause's query
pub inner_at-inner_in-requires : goal.inner_at-inner_in-requires
inner_at-inner_in-requires t c = (
  grind (arith, common_steps, sizes),
  elements_built c.args.mapping.now c.args.scope c.args.form c.element_of.result c.as_slice.result.now _ (known_of c.args.built) c.element_of.ensures c.as_slice.ensures (rw c.in-List.is at c.requires),
)

pub inner_inside-inner_among-requires : goal.inner_inside-inner_among-requires
inner_inside-inner_among-requires t c = (
  grind (arith, common_steps, sizes),
  members_built c.args.mapping.now c.args.scope c.scope_inside-inside.result c.args.form c.as_slice.result.now c.args.object.now (known_of c.args.built) c.as_slice.ensures.members c.scope_inside-inside.ensures c.as_slice.ensures.ascending c.requires,
)

pub inner_inside-inner_among-requires-2 : goal.inner_inside-inner_among-requires-2
inner_inside-inner_among-requires-2 t c = (
  grind (arith, common_steps, sizes),
  members_built c.args.mapping.now c.args.scope c.scope_inside-inside-2.result c.args.form c.as_slice-2.result.now c.args.object.now (known_of c.args.built) c.as_slice-2.ensures.members c.scope_inside-inside-2.ensures c.as_slice-2.ensures.ascending c.requires,
)

pub inner_inside-owned_by-requires-clause-shared : goal.inner_inside-owned_by-requires-clause-shared
inner_inside-owned_by-requires-clause-shared t c =
    own_built c.args.mapping.now c.args.scope c.scope_inside-inside-2.result c.args.form (members_of c.args.object.now) (known_of c.args.built) c.own_query.result c.scope_inside-inside-2.ensures c.requires c.own_query.ensures

-- nothing is judged inside a leaf, which owns nothing
pub inner_inside-returns-then-not-has_parts : goal.inner_inside-returns-then-not-has_parts
inner_inside-returns-then-not-has_parts t c =
    let m = c.args.mapping.now in
    let ms = members_of c.args.object.now in
    let inside = scope_inside m c.args.scope c.args.form ms in
    let all = inner_among m inside c.args.form ms in
    let none : all ≡ [] = no_inner_among m inside c.args.form ms (λ level. c.has_parts.ensures.none c.if-not-has_parts.true m inside level ms) in
    let own : owned_by m c.args.scope c.args.form ms all ≡ all = c.may_own.ensures c.if-not-may_own.true m c.args.scope all in
    sym (ap (λ (x : List (Definition Inner)). map inner_of c.args.found.now.items ++ x) (own ∙ none) ∙ append-nil (map inner_of c.args.found.now.items))
