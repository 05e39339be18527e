-- The part that a `Node` is.
use Rattle.tree_json.specs.View.{view}
use Rattle.search_walk.specs.declared.node.Node as declared
use Rattle.search_walk.specs.Node.{Node}

abbrev pub node_of : declared.Node → Node
node_of n = record { scope = n.scope; level = n.level; form = n.form; value = view n.value.now }
