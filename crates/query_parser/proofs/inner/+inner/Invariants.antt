use Rattle.std.proofs.Common.{◌≡◌, ◌++◌, ◌+◌, ◌*◌, map, drop}
use Rattle.tree_json.specs.Value.{value_size, elements_size, elements_of, members_size, members_of}
use Rattle.tree_json.specs.View.{view, values, entries}
use Rattle.query_ast.specs.Inner.View.{inner_of}
use Rattle.query_parser.specs.InnerHits.{inner_in, inner_among}
use Rattle.query_parser.proofs.inner.+inner.Given as goal

abbrev pub decreases-inner_at : goal.decreases-inner_at
decreases-inner_at l = 2 * value_size (view l.value.now)

abbrev pub decreases-inner_inside : goal.decreases-inner_inside
decreases-inner_inside l = 2 * members_size (members_of l.object.now) + 1

abbrev pub decreases-inner_part : goal.decreases-inner_part
decreases-inner_part l = 2 * value_size (view l.value.now) + 1

abbrev pub decreases-inner_in : goal.decreases-inner_in
decreases-inner_in l = 2 * elements_size (elements_of (values l.elements.now))

abbrev pub decreases-inner_among : goal.decreases-inner_among
decreases-inner_among l = 2 * members_size (members_of (entries l.members.now))

abbrev pub invariant-inner_in-elements : goal.invariant-inner_in-elements
invariant-inner_in-elements l =
    map inner_of l.found.items ++ inner_in l.mapping l.scope l.form (elements_of (values (drop l.index l.elements)))
    ≡ map inner_of l.fn.found.items ++ inner_in l.mapping l.scope l.form (elements_of (values l.elements))

abbrev pub invariant-inner_among-members : goal.invariant-inner_among-members
invariant-inner_among-members l =
    map inner_of l.found.items ++ inner_among l.mapping l.scope l.form (members_of (entries (drop l.name-index l.members)))
    ≡ map inner_of l.fn.found.items ++ inner_among l.mapping l.scope l.form (members_of (entries l.members))
