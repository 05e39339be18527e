use Rattle.std.proofs.Common.{◌≡◌, ◌++◌, map, filter, not, drop}
use Rattle.mapping_body.specs.Names.{is_among}
use Rattle.mapping_growth.specs.Relations.{relation_names, relations_of}
use Rattle.mapping_growth.proofs.addition.names_new.Given as goal

abbrev pub invariant-all : goal.invariant-all
invariant-all l =
    map (λ n. n.text.now) l.names.items ++ filter (λ name. not (is_among (relation_names (relations_of l.said)) name)) (map (λ n. n.text.now) (drop l.name-index l.all))
    ≡ filter (λ name. not (is_among (relation_names (relations_of l.said)) name)) (map (λ n. n.text.now) l.all)
