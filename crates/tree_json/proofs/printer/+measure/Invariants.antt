use Rattle.std.proofs.Common.{◌≡◌, ◌+◌, ◌*◌, ◌-◌, ◌<◌, ◌^◌, min, length, drop, false}
use Rattle.tree_json.specs.Sound.{AreSound, MembersAreSound}
use Rattle.tree_json.specs.Text.{compact_elements, compact_members}
use Rattle.tree_json.specs.Value.{value_size, elements_of, elements_size, members_of, members_size}
use Rattle.tree_json.specs.View.{view, values, entries}
use Rattle.tree_json.proofs.printer.+measure.Given as goal

abbrev pub decreases-compact_len : goal.decreases-compact_len
decreases-compact_len l = 2 * value_size (view l.value.now)

abbrev pub decreases-elements_len : goal.decreases-elements_len
decreases-elements_len l = 2 * elements_size (elements_of (values l.elements.now))

abbrev pub decreases-members_len : goal.decreases-members_len
decreases-members_len l = 2 * members_size (members_of (entries l.members.now))

abbrev pub decreases-member_len : goal.decreases-member_len
decreases-member_len l = 2 * value_size (view l.member.now.1) + 1

abbrev pub invariant-elements_len-elements : goal.invariant-elements_len-elements
invariant-elements_len-elements l =
    (l.total < 2 ^ 64)
    × (min (l.total + length (compact_elements l.later (elements_of (values (drop l.element-index l.elements))))) (2 ^ 64 - 1)
    ≡ min (length (compact_elements false (elements_of (values l.elements)))) (2 ^ 64 - 1))
    × (AreSound (elements_of (values (drop l.element-index l.elements))) → AreSound (elements_of (values l.elements)))

abbrev pub invariant-members_len-members : goal.invariant-members_len-members
invariant-members_len-members l =
    (l.total < 2 ^ 64)
    × (min (l.total + length (compact_members l.later (members_of (entries (drop l.member-index l.members))))) (2 ^ 64 - 1)
    ≡ min (length (compact_members false (members_of (entries l.members)))) (2 ^ 64 - 1))
    × (MembersAreSound (members_of (entries (drop l.member-index l.members))) → MembersAreSound (members_of (entries l.members)))
