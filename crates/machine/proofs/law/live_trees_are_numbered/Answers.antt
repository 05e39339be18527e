use Rattle.machine.proofs.Numbered.{may_numbered}
use Rattle.machine.proofs.law.live_trees_are_numbered.Goals as goal

pub returns : goal.returns
returns c = may_numbered
