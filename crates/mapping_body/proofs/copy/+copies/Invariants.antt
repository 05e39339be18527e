use Rattle.std.proofs.Common.{◌≡◌, ◌*◌, take}
use Rattle.tree_json.specs.Value.{value_size, elements_size, elements_of, members_size, members_of}
use Rattle.tree_json.specs.View.{view, values, entries}
use Rattle.mapping_body.proofs.copy.+copies.Given as goal

abbrev pub decreases-copied : goal.decreases-copied
decreases-copied l = 2 * value_size (view l.value.now)

abbrev pub decreases-copied_list : goal.decreases-copied_list
decreases-copied_list l = 2 * elements_size (elements_of (values l.elements.now))

abbrev pub decreases-copied_object : goal.decreases-copied_object
decreases-copied_object l = 2 * members_size (members_of (entries l.members.now))

abbrev pub invariant-copied_list-elements : goal.invariant-copied_list-elements
invariant-copied_list-elements l = values l.found.items ≡ values (take l.element-index l.elements)

abbrev pub invariant-copied_object-members : goal.invariant-copied_object-members
invariant-copied_object-members l = entries l.found.items ≡ entries (take l.name-index l.members)
