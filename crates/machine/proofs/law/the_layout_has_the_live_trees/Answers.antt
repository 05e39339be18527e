use Rattle.machine.proofs.Laid.{may_laid}
use Rattle.machine.proofs.law.the_layout_has_the_live_trees.Goals as goal

pub returns : goal.returns
returns c = may_laid
