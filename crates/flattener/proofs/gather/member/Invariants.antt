use Rattle.std.proofs.Common.{◌≡◌, drop}
use Rattle.tree_json.specs.Value.{members_of, member_of}
use Rattle.tree_json.specs.View.{entries}
use Rattle.flattener.proofs.gather.member.Given as goal

abbrev pub invariant-members : goal.invariant-members
invariant-members l = member_of (members_of (entries (drop l.key-index l.members))) l.name ≡ member_of (members_of (entries l.members)) l.name
