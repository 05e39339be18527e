use Rattle.machine.proofs.Merged.{merged_as}
use Rattle.machine.proofs.law.merge_commands_are_alike.Goals as goal

pub returns : goal.returns
returns g c = merged_as
