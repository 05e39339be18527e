use Rattle.std.proofs.Common.{◌≡◌, drop, map}
use Rattle.tree_json.specs.Value.{members_of}
use Rattle.request_form.specs.Form.{has_required}
use Rattle.request_form.proofs.object.has_required.Given as goal

abbrev pub invariant-lines : goal.invariant-lines
invariant-lines l =
    has_required (map (λ k. (k.0.now, k.1, k.2)) (drop l.name-index l.lines)) (members_of l.object)
    ≡ has_required (map (λ k. (k.0.now, k.1, k.2)) l.lines) (members_of l.object)
