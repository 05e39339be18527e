use Rattle.std.proofs.Common.{◌≡◌, drop}
use Rattle.tree_json.specs.Value.{members_of}
use Rattle.tree_json.specs.View.{entries}
use Rattle.tree_objects.specs.Values.{has_join_names}
use Rattle.flattener.proofs.join.has_join_names.Given as goal

abbrev pub invariant-members : goal.invariant-members
invariant-members l = has_join_names (members_of (entries (drop l.name-index l.members))) ≡ has_join_names (members_of (entries l.members))
