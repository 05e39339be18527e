use Rattle.std.proofs.Common.{◌≡◌, ◌+◌, ◌*◌, drop}
use Rattle.tree_json.specs.Value.{value_size, elements_size, elements_of, members_size, members_of}
use Rattle.tree_json.specs.View.{view, values, entries}
use Rattle.tree_objects.specs.Fault.{fault_among, fault_in}
use Rattle.mapping.specs.Mapping.{field_at, kind_at}
use Rattle.tree_objects.proofs.fault.+faults.Given as goal

abbrev pub decreases-fault_among : goal.decreases-fault_among
decreases-fault_among l = 3 * members_size (members_of (entries l.members.now))

abbrev pub decreases-fault_below : goal.decreases-fault_below
decreases-fault_below l = 3 * value_size (view l.value.now) + 1

abbrev pub decreases-fault_at : goal.decreases-fault_at
decreases-fault_at l = 3 * value_size (view l.value.now)

abbrev pub decreases-fault_of_list : goal.decreases-fault_of_list
decreases-fault_of_list l = 3 * elements_size (elements_of (values l.elements.now)) + 1

abbrev pub decreases-fault_in : goal.decreases-fault_in
decreases-fault_in l = 3 * elements_size (elements_of (values l.elements.now))

-- no fault stands before what is left
abbrev pub invariant-fault_among-members : goal.invariant-fault_among-members
invariant-fault_among-members l =
    fault_among l.mapping l.generation l.path (members_of (entries (drop l.name-index l.members))) ≡ fault_among l.mapping l.generation l.path (members_of (entries l.members))

abbrev pub invariant-fault_in-elements : goal.invariant-fault_in-elements
invariant-fault_in-elements l =
    fault_in l.mapping l.generation (field_at l.mapping l.field).path l.field (kind_at l.mapping l.field) (elements_of (values (drop l.element-index l.elements)))
    ≡ fault_in l.mapping l.generation (field_at l.mapping l.field).path l.field (kind_at l.mapping l.field) (elements_of (values l.elements))
