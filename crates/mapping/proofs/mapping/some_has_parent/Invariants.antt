use Rattle.std.proofs.Common.{◌≡◌, drop, map}
use Rattle.std.specs.List.{list_any}
use Rattle.mapping_growth.specs.Bodies.{is_number}
use Rattle.mapping_growth.specs.Kept.{relation_of}
use Rattle.mapping.proofs.mapping.some_has_parent.Given as goal

abbrev pub invariant-relations : goal.invariant-relations
invariant-relations l =
    list_any (λ r. is_number l.parent r.parent) (map relation_of (drop l.relation-index l.relations)) ≡ list_any (λ r. is_number l.parent r.parent) (map relation_of l.relations)
