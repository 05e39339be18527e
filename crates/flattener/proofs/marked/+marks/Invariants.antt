use Rattle.std.proofs.Common.{◌≡◌, ◌+◌, ◌*◌, drop, length}
use Rattle.tree_json.specs.Value.{value_size, elements_size, elements_of, members_size, members_of}
use Rattle.tree_json.specs.View.{view, values, entries}
use Rattle.flattener.specs.Named.{MarksBut, fields_among, fields_in}
use Rattle.flattener.proofs.marked.+marks.Given as goal

abbrev pub decreases-mark_below : goal.decreases-mark_below
decreases-mark_below l = 3 * value_size (view l.value.now)

abbrev pub decreases-mark_in : goal.decreases-mark_in
decreases-mark_in l = 3 * elements_size (elements_of (values l.elements.now))

abbrev pub decreases-mark_among : goal.decreases-mark_among
decreases-mark_among l = 3 * members_size (members_of (entries l.members.now))

abbrev pub decreases-mark_member : goal.decreases-mark_member
decreases-mark_member l = 3 * value_size (view l.value.now) + 1

abbrev pub invariant-mark_in-elements : goal.invariant-mark_in-elements
invariant-mark_in-elements l =
    (length l.marks ≡ length l.fn.marks)
    × MarksBut l.fn.marks l.marks (fields_in l.mapping l.generation l.path (elements_of (values (drop l.element-index l.elements)))) (fields_in l.mapping l.generation l.path (elements_of (values l.elements)))

abbrev pub invariant-mark_among-members : goal.invariant-mark_among-members
invariant-mark_among-members l =
    (length l.marks ≡ length l.fn.marks)
    × MarksBut l.fn.marks l.marks (fields_among l.mapping l.generation l.path (members_of (entries (drop l.name-index l.members)))) (fields_among l.mapping l.generation l.path (members_of (entries l.members)))
