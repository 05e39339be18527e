use Rattle.std.proofs.Common.{◌≡◌, ◌++◌, ◌∙◌, sym, ap, map, take, arith, List, ℕ}
use Rattle.std.proofs.lemmas.Grind.{common_steps}
use Rattle.mapping_body.specs.Kept.{pair_of}
use Rattle.mapping_growth.specs.Kept.{relation_of}
use Rattle.mapping_growth.specs.Relations.{relation_by, relation_names, relations_of}
use Rattle.mapping_growth.proofs.Pairs.{relations_of_firsts}
use Rattle.mapping_growth.proofs.addition.relations_added.Goals as goal

pub returns : goal.returns
returns c =
    let whole : take c.names.name-index c.deref-name-items.result.now ≡ c.deref-name-items.result.now = grind (arith, common_steps) in
    rw c.deref-name-items.ensures.value at (rw whole at c.names.invariant)
    ∙ relations_of_firsts c.args.generation c.args.pairs.now c.in_ok-firsts.firsts.items (relation_names (relations_of c.args.said.now) ++ map (λ n. n.text.now) c.in_ok-names.names.items) (map (λ n. n.text.now) c.in_ok-names.names.items) c.in_ok-firsts.ensures.items
    ∙ ap (λ (names : List (List ℕ)). map (relation_by c.args.generation (map pair_of c.args.pairs.now) (relation_names (relations_of c.args.said.now) ++ names)) names) c.in_ok-names.ensures.names
