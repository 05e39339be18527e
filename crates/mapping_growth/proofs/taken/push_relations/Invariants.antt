use Rattle.std.proofs.Common.{◌≡◌, ◌++◌, map, drop}
use Rattle.mapping_growth.specs.Kept.{relation_of}
use Rattle.mapping_growth.proofs.taken.push_relations.Given as goal

abbrev pub invariant-relations : goal.invariant-relations
invariant-relations l =
    map relation_of l.whole.items ++ map relation_of (drop l.relation-index l.relations) ≡ map relation_of l.fn.whole.items ++ map relation_of l.relations
