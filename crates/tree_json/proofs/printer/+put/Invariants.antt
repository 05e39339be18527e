use Rattle.std.proofs.Common.{◌≡◌, ◌+◌, ◌*◌, ◌≤◌, ◌++◌, length, drop, false}
use Rattle.tree_json.specs.Text.{compact_elements, compact_members}
use Rattle.tree_json.specs.Value.{value_size, elements_of, elements_size, members_of, members_size}
use Rattle.tree_json.specs.View.{view, values, entries}
use Rattle.tree_json.proofs.printer.+put.Given as goal

abbrev pub decreases-put : goal.decreases-put
decreases-put l = 2 * value_size (view l.value.now)

abbrev pub decreases-put_elements : goal.decreases-put_elements
decreases-put_elements l = 2 * elements_size (elements_of (values l.elements.now))

abbrev pub decreases-put_members : goal.decreases-put_members
decreases-put_members l = 2 * members_size (members_of (entries l.members.now))

abbrev pub decreases-put_member : goal.decreases-put_member
decreases-put_member l = 2 * value_size (view l.member.now.1) + 1

-- what is written and what is left make the whole, and there is room for what is left
abbrev pub invariant-put_elements-elements : goal.invariant-put_elements-elements
invariant-put_elements-elements l =
    (l.into.bytes ++ compact_elements l.later (elements_of (values (drop l.element-index l.elements)))
    ≡ l.fn.into.bytes ++ compact_elements false (elements_of (values l.elements)))
    × (l.fn.into.spare + length (compact_elements l.later (elements_of (values (drop l.element-index l.elements))))
    ≤ l.into.spare + length (compact_elements false (elements_of (values l.elements))))

abbrev pub invariant-put_members-members : goal.invariant-put_members-members
invariant-put_members-members l =
    (l.into.bytes ++ compact_members l.later (members_of (entries (drop l.member-index l.members)))
    ≡ l.fn.into.bytes ++ compact_members false (members_of (entries l.members)))
    × (l.fn.into.spare + length (compact_members l.later (members_of (entries (drop l.member-index l.members))))
    ≤ l.into.spare + length (compact_members false (members_of (entries l.members))))
