use Rattle.std.proofs.Common.{Some}
use Rattle.index_core.proofs.Numbers.{updates_ids}
use Rattle.index_core.proofs.live_numbers.LiveNumbers.put.Goals as goal

pub returns-clause-put : goal.returns-clause-put
returns-clause-put c = updates_ids c.args.id.items c.args.self.now.numbers c.insert.new.self (Some c.args.number) c.in_ok-insert.ensures.updates
