use Rattle.machine.proofs.Named.{committed_kept, compacted_kept}
use Rattle.machine.proofs.Storing.{moves_down, stored_sealed, trim_bounds}
use Rattle.machine.proofs.law.commits_keep_what_they_name.Goals as goal

pub returns-clause-sealed : goal.returns-clause-sealed
returns-clause-sealed c = stored_sealed

pub returns-clause-committed : goal.returns-clause-committed
returns-clause-committed c = committed_kept

pub returns-clause-compacted : goal.returns-clause-compacted
returns-clause-compacted c = compacted_kept

pub returns-clause-moves : goal.returns-clause-moves
returns-clause-moves c = moves_down

pub returns-clause-trimmed : goal.returns-clause-trimmed
returns-clause-trimmed c = trim_bounds
