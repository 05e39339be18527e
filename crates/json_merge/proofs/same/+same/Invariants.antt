use Rattle.std.proofs.Common.{◌≡◌, ◌*◌, drop}
use Rattle.tree_json.specs.Value.{value_size, elements_of, elements_size, members_of, members_size}
use Rattle.tree_json.specs.View.{view, values, entries}
use Rattle.json_merge.specs.Same.{is_same_list, is_same_object}
use Rattle.json_merge.proofs.same.+same.Given as goal

abbrev pub decreases-same : goal.decreases-same
decreases-same l = 2 * value_size (view l.a.now)

abbrev pub decreases-same_elements : goal.decreases-same_elements
decreases-same_elements l = 2 * elements_size (elements_of (values l.a.now))

abbrev pub decreases-same_members : goal.decreases-same_members
decreases-same_members l = 2 * members_size (members_of (entries l.a.now))

-- what is left is the same exactly where the whole is
abbrev pub invariant-same_elements-elements : goal.invariant-same_elements-elements
invariant-same_elements-elements l =
    is_same_list (elements_of (values (drop l.element-index l.a))) (elements_of (values l.rest)) ≡ is_same_list (elements_of (values l.a)) (elements_of (values l.b))

abbrev pub invariant-same_members-members : goal.invariant-same_members-members
invariant-same_members-members l =
    is_same_object (members_of (entries (drop l.name-index l.a))) (members_of (entries l.rest)) ≡ is_same_object (members_of (entries l.a)) (members_of (entries l.b))
