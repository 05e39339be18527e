-- Pairs that are lent from a body, as the definitions see them.
use Rattle.mapping_body.specs.declared.pair.Pair.{Pair as Lent}
use Rattle.mapping_body.specs.Pairs.{Pair}

abbrev pub pair_of : Lent → Pair
pair_of p = record { parent = p.parent.now; child = p.child.now }
