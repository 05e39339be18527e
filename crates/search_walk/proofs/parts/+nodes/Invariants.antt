use Rattle.std.proofs.Common.{◌≡◌, ◌+◌, ◌*◌, drop}
use Rattle.tree_json.specs.Value.{value_size, elements_size, elements_of, members_size, members_of}
use Rattle.tree_json.specs.View.{view, values, entries}
use Rattle.search_walk.specs.Node.{nodes_in, nodes_among}
use Rattle.search_walk.specs.Walk.{walk_of, walked}
use Rattle.search_walk.proofs.parts.+nodes.Given as goal

abbrev pub decreases-nodes_at : goal.decreases-nodes_at
decreases-nodes_at l = 3 * value_size (view l.value.now)

abbrev pub decreases-object_nodes : goal.decreases-object_nodes
decreases-object_nodes l = 3 * members_size (members_of l.object.now) + 1

abbrev pub decreases-nodes_in : goal.decreases-nodes_in
decreases-nodes_in l = 3 * elements_size (elements_of (values l.elements.now))

abbrev pub decreases-nodes_among : goal.decreases-nodes_among
decreases-nodes_among l = 3 * members_size (members_of (entries l.members.now))

-- a walk that goes on over what is left is the walk over the whole
abbrev pub invariant-nodes_in-elements : goal.invariant-nodes_in-elements
invariant-nodes_in-elements l =
    walked l.mapping (walk_of l.walk) (nodes_in l.mapping l.scope l.level l.form (elements_of (values (drop l.element-index l.elements))))
    ≡ walked l.mapping (walk_of l.fn.walk) (nodes_in l.mapping l.scope l.level l.form (elements_of (values l.elements)))

abbrev pub invariant-nodes_among-members : goal.invariant-nodes_among-members
invariant-nodes_among-members l =
    walked l.mapping (walk_of l.walk) (nodes_among l.mapping l.scope l.level l.form (members_of (entries (drop l.name-index l.members))))
    ≡ walked l.mapping (walk_of l.fn.walk) (nodes_among l.mapping l.scope l.level l.form (members_of (entries l.members)))
