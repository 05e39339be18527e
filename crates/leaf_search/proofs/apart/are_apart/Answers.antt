use Rattle.postings.specs.Postings.{present_positions}
use Rattle.leaf_search.specs.Patterns.{positions_in}
use Rattle.leaf_search.proofs.Running.{places_of}
use Rattle.leaf_search.proofs.Taking.{apart_more}
use Rattle.leaf_search.proofs.apart.are_apart.Goals as goal

pub cursors-preserved : goal.cursors-preserved
cursors-preserved c =
    apart_more (positions_in c.args.cursors.now) c.cursors.cursor-index (present_positions c.cursor-item.result) c.cursors.taken c.take_positions.new.taken c.cursors.invariant
    (places_of c.args.cursors.now c.cursors.cursor-index c.cursor-item.result c.cursors-test.true c.cursor-item.is)
    c.take_positions.ensures.kept (c.take_positions.ensures.free c.if-not-take_positions.false) (c.take_positions.ensures.taken c.if-not-take_positions.false)
