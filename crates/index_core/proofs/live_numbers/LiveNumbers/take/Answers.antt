use Rattle.std.proofs.Common.{None}
use Rattle.index_core.proofs.Numbers.{updates_ids}
use Rattle.index_core.proofs.live_numbers.LiveNumbers.take.Goals as goal

pub returns : goal.returns
returns c = updates_ids c.args.id.now c.args.self.now.numbers c.remove.new.self None c.remove.ensures.updates
