use Rattle.std.proofs.Common.{Some}
use Rattle.index_core.proofs.Numbers.{updates_ids}
use Rattle.store_opening.proofs.live_ids.LiveIds.put.Goals as goal

pub returns : goal.returns
returns c = updates_ids c.args.id.items c.args.self.now.numbers c.insert.new.self (Some c.args.number) c.in_ok-insert.ensures.updates
