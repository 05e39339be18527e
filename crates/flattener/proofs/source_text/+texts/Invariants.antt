use Rattle.std.proofs.Common.{◌≡◌, ◌*◌, ◌++◌, drop, false}
use Rattle.tree_json.specs.Sound.{AreSound, MembersAreSound}
use Rattle.tree_json.specs.Text.{compact_elements, compact_members}
use Rattle.tree_json.specs.Value.{value_size, elements_of, elements_size, members_of, members_size}
use Rattle.tree_json.specs.View.{view, values, entries}
use Rattle.flattener.proofs.source_text.+texts.Given as goal

abbrev pub decreases-push : goal.decreases-push
decreases-push l = 2 * value_size (view l.value.now)

abbrev pub decreases-push_elements : goal.decreases-push_elements
decreases-push_elements l = 2 * elements_size (elements_of (values l.elements.now))

abbrev pub decreases-push_members : goal.decreases-push_members
decreases-push_members l = 2 * members_size (members_of (entries l.members.now))

-- what is written and what is left make the whole, which is sound if what is left is
abbrev pub invariant-push_elements-elements : goal.invariant-push_elements-elements
invariant-push_elements-elements l =
    (l.into.bytes ++ compact_elements l.later (elements_of (values (drop l.element-index l.elements)))
    ≡ l.fn.into.bytes ++ compact_elements false (elements_of (values l.elements)))
    × (AreSound (elements_of (values (drop l.element-index l.elements))) → AreSound (elements_of (values l.elements)))

abbrev pub invariant-push_members-members : goal.invariant-push_members-members
invariant-push_members-members l =
    (l.into.bytes ++ compact_members l.later (members_of (entries (drop l.name-index l.members)))
    ≡ l.fn.into.bytes ++ compact_members false (members_of (entries l.members)))
    × (MembersAreSound (members_of (entries (drop l.name-index l.members))) → MembersAreSound (members_of (entries l.members)))
