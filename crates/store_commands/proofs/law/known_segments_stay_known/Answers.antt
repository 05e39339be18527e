use Rattle.store_commands.proofs.Known.{known_on, opened_given}
use Rattle.store_commands.proofs.law.known_segments_stay_known.Goals as goal

pub returns-clause-kept : goal.returns-clause-kept
returns-clause-kept c = known_on

pub returns-clause-opened : goal.returns-clause-opened
returns-clause-opened c = opened_given
