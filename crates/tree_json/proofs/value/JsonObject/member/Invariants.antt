use Rattle.std.proofs.Common.{◌≡◌, ◌≤◌, length}
use Rattle.tree_json.specs.Names.{IsAscending}
use Rattle.tree_json.specs.Value.{members_of, member_of}
use Rattle.tree_json.specs.View.{entries}
use Rattle.tree_json.proofs.value.JsonObject.member.Given as goal

-- the name has the same value among the members that are left as among all
abbrev pub invariant-halves : goal.invariant-halves
invariant-halves l =
    (length l.members ≤ length l.initial.members)
    × IsAscending (entries l.members)
    × (member_of (members_of (entries l.members)) l.name ≡ member_of (members_of l.self) l.name)

abbrev pub decreases-halves : goal.decreases-halves
decreases-halves l = length l.members
