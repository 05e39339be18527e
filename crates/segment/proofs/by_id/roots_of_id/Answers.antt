use Rattle.segment.proofs.ById.{between}
use Rattle.segment.proofs.by_id.roots_of_id.Goals as goal

pub returns : goal.returns
returns c =
    between c.args.sources.now c.args.order.now c.args.id.now c.roots_up_to-first.result c.roots_up_to-end.result c.requires c.roots_up_to-first.ensures c.roots_up_to-end.ensures
