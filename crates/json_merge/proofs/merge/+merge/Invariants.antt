use Rattle.std.proofs.Common.{◌+◌, ◌*◌, ◌≤◌}
use Rattle.std.specs.Vec.Iter.{into_iter_items}
use Rattle.tree_json.specs.Value.{members_of, members_size, value_size}
use Rattle.tree_json.specs.View.{view, entries}
use Rattle.json_merge.specs.Merged.{merged_members}
use Rattle.json_merge.proofs.Merging.{Makes}
use Rattle.json_merge.proofs.merge.+merge.Given as goal

abbrev pub decreases-merged : goal.decreases-merged
decreases-merged l = 4 * value_size (view l.change)

abbrev pub decreases-merged_object : goal.decreases-merged_object
decreases-merged_object l = 4 * members_size (members_of l.changes) + 2

abbrev pub decreases-merged_members : goal.decreases-merged_members
decreases-merged_members l = 4 * members_size (members_of l.changes) + 1

abbrev pub decreases-put_change : goal.decreases-put_change
decreases-put_change l = 4 * value_size (view l.value) + 1

-- what was found, what is left of the change and what is still to come make the whole
abbrev pub invariant-merged_members-changes : goal.invariant-merged_members-changes
invariant-merged_members-changes l =
    (goal.iterator-merged_members-changes).can_next l.name-iterator
    × (goal.iterator-merged_members-changes).is_finite l.name-iterator
    × Makes (entries l.found.items) (entries l.coming.items) (entries (into_iter_items l.name-iterator)) (merged_members (members_of l.fn.changes) (members_of l.fn.live))
    × (members_size (members_of (entries (into_iter_items l.name-iterator))) ≤ members_size (members_of l.fn.changes))
