use Rattle.std.proofs.Common.{Some}
use Rattle.index_core.proofs.Numbers.{updates_ids}
use Rattle.index_core.proofs.live_numbers.LiveNumbers.replace.Goals as goal

pub returns-in-Some : goal.returns-in-Some
returns-in-Some c = updates_ids c.args.id.now c.args.self.now.numbers (c.get_mut.follows.lender c.args.number) (Some c.args.number) ((c.get_mut.follows.holds c.args.number).3 c.requires)
