use Rattle.segment.specs.Lists.{postings_of}
use Rattle.leaf_search.proofs.Conjoining.{cursors_more}
use Rattle.leaf_search.proofs.conjunction.cursors_at.Goals as goal

pub ordinals-preserved : goal.ordinals-preserved
ordinals-preserved c =
    cursors_more (postings_of c.args.segment.now) c.args.ordinals.now c.ordinals.ordinal-index c.ordinals.cursors.items c.push.new.self.items c.first_of.result c.ordinals-test.true c.ordinals.invariant.0 c.ordinals.invariant.1
    c.first_of.ensures.list c.first_of.ensures.first c.in_ok-push.ensures.items
