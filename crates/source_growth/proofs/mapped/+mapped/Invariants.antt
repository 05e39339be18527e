use Rattle.std.proofs.Common.{◌≡◌, ◌+◌, ◌*◌, drop}
use Rattle.tree_json.specs.Value.{value_size, elements_size, elements_of, members_size, members_of}
use Rattle.tree_json.specs.View.{view, values, entries}
use Rattle.mapping.specs.Mapping.{field_at}
use Rattle.source_growth.specs.Growth.{mapped_among, mapped_in}
use Rattle.source_growth.proofs.mapped.+mapped.Given as goal

abbrev pub decreases-add_among : goal.decreases-add_among
decreases-add_among l = 4 * members_size (members_of (entries l.members.now))

abbrev pub decreases-add_member : goal.decreases-add_member
decreases-add_member l = 4 * value_size (view l.value.now) + 2

abbrev pub decreases-add_under : goal.decreases-add_under
decreases-add_under l = 4 * value_size (view l.value.now) + 1

abbrev pub decreases-add_below : goal.decreases-add_below
decreases-add_below l = 4 * value_size (view l.value.now)

abbrev pub decreases-add_in : goal.decreases-add_in
decreases-add_in l = 4 * elements_size (elements_of (values l.elements.now))

-- what is left adds to what was found what all adds to what was there
abbrev pub invariant-add_among-members : goal.invariant-add_among-members
invariant-add_among-members l =
    mapped_among l.mapping l.path (members_of (entries (drop l.name-index l.members))) l.found ≡ mapped_among l.mapping l.path (members_of (entries l.members)) l.fn.found

abbrev pub invariant-add_in-elements : goal.invariant-add_in-elements
invariant-add_in-elements l =
    mapped_in l.mapping (field_at l.mapping l.field).path (elements_of (values (drop l.element-index l.elements))) l.found
    ≡ mapped_in l.mapping (field_at l.mapping l.field).path (elements_of (values l.elements)) l.fn.found
