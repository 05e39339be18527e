use Rattle.machine.proofs.Beside.{never_failed, step_needs}
use Rattle.machine.proofs.law.the_store_alone_needs_the_disk.Goals as goal

pub returns-clause-needs : goal.returns-clause-needs
returns-clause-needs c = step_needs

pub returns-clause-failed : goal.returns-clause-failed
returns-clause-failed c = never_failed
