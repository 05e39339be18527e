use Rattle.std.proofs.Common.{◌≡◌, map, take, length}
use Rattle.mapping_growth.specs.Bodies.{has_children}
use Rattle.mapping_growth.specs.Judged.{ArePassed}
use Rattle.mapping_growth.specs.Kept.{relation_of}
use Rattle.mapping_growth.proofs.conflict.parents_of.Given as goal

abbrev pub invariant-relations : goal.invariant-relations
invariant-relations l = ArePassed l.parents.items (has_children (map relation_of (take l.relation-index l.relations))) (length l.relations)
