use Rattle.std.proofs.Common.{◌≡◌, drop, map}
use Rattle.tree_json.specs.View.{view}
use Rattle.request_form.specs.Form.{is_taken}
use Rattle.request_form.proofs.object.is_taken.Given as goal

abbrev pub invariant-lines : goal.invariant-lines
invariant-lines l =
    is_taken (map (λ k. (k.0.now, k.1, k.2)) (drop l.known-index l.lines)) l.name (view l.value)
    ≡ is_taken (map (λ k. (k.0.now, k.1, k.2)) l.lines) l.name (view l.value)
