use Rattle.leaf_search.proofs.Picking.{AreIndexed}
use Rattle.leaf_search.proofs.ordinals.indexes_in.Given as goal

abbrev pub invariant-ordinals : goal.invariant-ordinals
invariant-ordinals l = AreIndexed l.asked l.ordinals l.ordinal-index l.words.items
