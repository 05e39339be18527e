use Rattle.std.proofs.Common.{◌≡◌, ◌++◌, map, take}
use Rattle.mapping_body.specs.Kept.{pair_of}
use Rattle.mapping_growth.specs.Kept.{relation_of}
use Rattle.mapping_growth.specs.Relations.{relation_by, relation_names, relations_of}
use Rattle.mapping_growth.proofs.addition.relations_added.Given as goal

abbrev pub invariant-names : goal.invariant-names
invariant-names l =
    map relation_of l.relations.items
    ≡ map (relation_by l.generation (map pair_of l.firsts.items) (relation_names (relations_of l.said) ++ map (λ n. n.text.now) l.name-items)) (map (λ n. n.text.now) (take l.name-index l.name-items))
