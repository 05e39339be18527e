use Rattle.commit_store.proofs.Planning.{planning_turn}
use Rattle.commit_store.proofs.plan.planned_in.Goals as goal

pub entries-preserved : goal.entries-preserved
entries-preserved c =
    planning_turn c.order_makes_no_difference.ensures.placed c.args.known.now c.requires c.args.entries.now c.entries.entry-index c.entry-item.result c.entries-test.true c.entry-item.is
    c.args.pool.now c.entries.pool c.planned_next.new.pool c.entries.segments.items c.push.new.self.items c.in_ok-planned_next.field-0 c.in_ok-planned_next.ensures.planned c.planned_next.ensures.limit
    c.in_ok-push.ensures.items c.entries.invariant
