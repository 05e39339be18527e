use Rattle.std.proofs.Common.{◌≡◌, drop}
use Rattle.tree_json.specs.Value.{members_of}
use Rattle.tree_json.specs.View.{entries}
use Rattle.query_parser.specs.Flat.{is_flat}
use Rattle.query_parser.proofs.inner.is_flat.Given as goal

abbrev pub invariant-members : goal.invariant-members
invariant-members l = is_flat (members_of (entries (drop l.value-index l.value-items))) ≡ is_flat (members_of l.object)
