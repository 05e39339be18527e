use Rattle.std.proofs.Common.{get_or, refl}
use Rattle.leaf_search.proofs.Picking.{any_there, indexed_more}
use Rattle.leaf_search.proofs.ordinals.indexes_in.Goals as goal

pub index_in-requires-clause-there : goal.index_in-requires-clause-there
index_in-requires-clause-there c = any_there c.args.asked.now c.args.ordinals.now c.ordinals.ordinal-index (get_or c.args.ordinals.now c.ordinals.ordinal-index 0) c.requires.same c.ordinals-test.true refl

pub ordinals-preserved : goal.ordinals-preserved
ordinals-preserved c =
    indexed_more c.args.asked.now c.args.ordinals.now c.ordinals.words.items c.push.new.self.items c.ordinals.ordinal-index c.index_in.result c.ordinals.invariant c.index_in.ensures.within c.index_in.ensures.is c.in_ok-push.ensures.items
