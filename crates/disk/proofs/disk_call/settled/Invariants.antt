use Rattle.std.proofs.Common.{◌≡◌, ◌≤◌, take}
use Rattle.disk.specs.Choices.{settled}
use Rattle.disk.proofs.disk_call.settled.Given as goal

abbrev pub invariant-calls : goal.invariant-calls
invariant-calls l = record { count : l.count ≡ settled (take l.index l.calls); within : l.count ≤ l.index }
