use Rattle.std.proofs.Common.{◌≡◌, ◌++◌, map, drop}
use Rattle.mapping_growth.specs.Relations.{names_in_pairs}
use Rattle.mapping_body.specs.Kept.{pair_of}
use Rattle.mapping_growth.proofs.addition.names_in.Given as goal

abbrev pub invariant-pairs : goal.invariant-pairs
invariant-pairs l =
    map (λ n. n.text.now) l.names.items ++ names_in_pairs (map pair_of (drop l.pair-index l.pairs)) ≡ names_in_pairs (map pair_of l.pairs)
