use Rattle.std.proofs.Common.{◌≡◌, drop}
use Rattle.tree_json.specs.Value.{members_of}
use Rattle.tree_json.specs.View.{entries}
use Rattle.search_form.specs.Form.{chosen}
use Rattle.search_form.proofs.object.chosen.Given as goal

abbrev pub invariant-names : goal.invariant-names
invariant-names l =
    chosen l.form (members_of (entries (drop l.name-index l.name-items)))
    ≡ chosen l.form (members_of l.object)
