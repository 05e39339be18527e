use Rattle.std.proofs.Common.{◌≡◌, ◌+◌, ◌*◌, drop}
use Rattle.tree_json.specs.Value.{value_size, elements_size, elements_of, members_size, members_of}
use Rattle.tree_json.specs.View.{view, values, entries}
use Rattle.source_growth.specs.Growth.{unmapped_among, unmapped_in}
use Rattle.source_growth.proofs.unmapped.+unmapped.Given as goal

abbrev pub decreases-add_among : goal.decreases-add_among
decreases-add_among l = 6 * members_size (members_of (entries l.members.now))

abbrev pub decreases-add_unmapped : goal.decreases-add_unmapped
decreases-add_unmapped l = 6 * value_size (view l.value.now) + 4

abbrev pub decreases-form_after : goal.decreases-form_after
decreases-form_after l = 6 * value_size (view l.value.now) + 3

abbrev pub decreases-more_form : goal.decreases-more_form
decreases-more_form l = 6 * value_size (view l.value.now) + 2

abbrev pub decreases-with_more : goal.decreases-with_more
decreases-with_more l = 6 * value_size (view l.value.now) + 1

abbrev pub decreases-new_form : goal.decreases-new_form
decreases-new_form l = 6 * value_size (view l.value.now) + 2

abbrev pub decreases-add_below : goal.decreases-add_below
decreases-add_below l = 6 * value_size (view l.value.now)

abbrev pub decreases-add_in : goal.decreases-add_in
decreases-add_in l = 6 * elements_size (elements_of (values l.elements.now))

-- what is left adds to what was found what all adds to what was there
abbrev pub invariant-add_among-members : goal.invariant-add_among-members
invariant-add_among-members l =
    unmapped_among (members_of (entries (drop l.name-index l.members))) l.found ≡ unmapped_among (members_of (entries l.members)) l.fn.found

abbrev pub invariant-add_in-elements : goal.invariant-add_in-elements
invariant-add_in-elements l =
    unmapped_in (elements_of (values (drop l.element-index l.elements))) l.found ≡ unmapped_in (elements_of (values l.elements)) l.fn.found
