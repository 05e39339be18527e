use Rattle.std.proofs.Common.{◌≡◌, drop, map}
use Rattle.tree_json.specs.Value.{members_of}
use Rattle.search_form.specs.Form.{are_apart}
use Rattle.search_form.proofs.object.are_apart.Given as goal

abbrev pub invariant-pairs : goal.invariant-pairs
invariant-pairs l =
    are_apart (map (λ p. (p.0.now, p.1.now)) (drop l.one-index l.pairs)) (members_of l.object)
    ≡ are_apart (map (λ p. (p.0.now, p.1.now)) l.pairs) (members_of l.object)
