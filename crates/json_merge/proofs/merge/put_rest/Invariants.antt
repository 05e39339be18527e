use Rattle.std.proofs.Common.{◌≡◌, length}
use Rattle.tree_json.specs.Value.{members_of}
use Rattle.tree_json.specs.View.{entries}
use Rattle.json_merge.specs.Coming.{behind}
use Rattle.json_merge.proofs.merge.put_rest.Given as goal

-- what was found and what is left make the whole
abbrev pub invariant-members : goal.invariant-members
invariant-members l =
    behind (entries l.found.items) (members_of (entries l.coming.items)) ≡ behind (entries l.fn.found.items) (members_of (entries l.fn.coming.items))

abbrev pub decreases-members : goal.decreases-members
decreases-members l = length l.coming.items
