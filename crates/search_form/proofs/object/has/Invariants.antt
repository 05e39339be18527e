use Rattle.std.proofs.Common.{◌≡◌, drop}
use Rattle.tree_json.specs.Value.{members_of}
use Rattle.tree_json.specs.View.{entries}
use Rattle.search_form.specs.Form.{has}
use Rattle.search_form.proofs.object.has.Given as goal

abbrev pub invariant-names : goal.invariant-names
invariant-names l =
    has (members_of (entries (drop l.known-index l.known-items))) l.name ≡ has (members_of l.object) l.name
