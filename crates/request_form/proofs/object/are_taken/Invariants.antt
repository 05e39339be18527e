use Rattle.std.proofs.Common.{◌≡◌, drop, map}
use Rattle.tree_json.specs.Value.{members_of}
use Rattle.tree_json.specs.View.{entries}
use Rattle.request_form.specs.Form.{are_taken}
use Rattle.request_form.proofs.object.are_taken.Given as goal

-- the members that are left decide as all of them do
abbrev pub invariant-members : goal.invariant-members
invariant-members l =
    are_taken (map (λ k. (k.0.now, k.1, k.2)) l.lines) (members_of (entries (drop l.name-index l.members)))
    ≡ are_taken (map (λ k. (k.0.now, k.1, k.2)) l.lines) (members_of (entries l.members))
