use Rattle.std.proofs.Common.{◌≡◌, ◌++◌, drop}
use Rattle.disk.specs.Choices.{pending_of}
use Rattle.disk.proofs.disk_call.pending_of.Given as goal

abbrev pub invariant-calls : goal.invariant-calls
invariant-calls l = l.pending.items ++ pending_of (drop l.call-index l.calls) ≡ pending_of l.calls
