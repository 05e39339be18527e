-- The ways to end, and the exit status of each.
use Rattle.std.specs.Prelude.{ℕ}
use Rattle.line_reader.specs.declared.stop.Stop.{Stop}
use Rattle.line_reader.specs.declared.stop.Stop.TheVariants.{End, Limit, Fault}
use Rattle.store_opening.specs.declared.refusal.OpenRefusal.{OpenRefusal}
use Rattle.store_opening.specs.declared.refusal.OpenRefusal.TheVariants as why
use Rattle.line_engine.specs.declared.status.Status.{Status}
use Rattle.line_engine.specs.declared.status.Status.TheVariants.{Done, BadWords, ReadFault, WriteFault, DiskFault, NotAStore, Damaged, SessionLimit, NoMemory}

-- how a session ends where there is no further request
abbrev pub status_of : Stop → Status
status_of End = Done
status_of Limit = SessionLimit
status_of Fault = ReadFault

-- and where the store isn't opened
abbrev pub status_unopened : OpenRefusal → Status
status_unopened why.DiskFault = DiskFault
status_unopened why.NotAStore = NotAStore
status_unopened why.Damaged = Damaged
status_unopened why.NoMemory = NoMemory

abbrev pub exit_status : Status → ℕ
exit_status Done = 0
exit_status BadWords = 2
exit_status ReadFault = 3
exit_status WriteFault = 4
exit_status DiskFault = 5
exit_status NotAStore = 6
exit_status Damaged = 7
exit_status SessionLimit = 8
exit_status NoMemory = 9
