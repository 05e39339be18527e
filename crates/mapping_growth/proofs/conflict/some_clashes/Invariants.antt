use Rattle.std.proofs.Common.{◌≡◌, map, drop}
use Rattle.std.specs.List.{list_any}
use Rattle.mapping_growth.specs.Bodies.{clashes}
use Rattle.mapping_body.specs.Kept.{pair_of}
use Rattle.mapping_growth.specs.Relations.{relations_of}
use Rattle.mapping_growth.proofs.conflict.some_clashes.Given as goal

abbrev pub invariant-pairs : goal.invariant-pairs
invariant-pairs l =
    list_any (clashes (relations_of l.said)) (map pair_of (drop l.pair-index l.pairs)) ≡ list_any (clashes (relations_of l.said)) (map pair_of l.pairs)
