use Rattle.std.proofs.Common.{◌≡◌, drop}
use Rattle.disk.specs.Record.{content_after}
use Rattle.disk.proofs.disk_call.replay.Given as goal

abbrev pub invariant-calls : goal.invariant-calls
invariant-calls l = content_after (drop l.call-index l.calls) l.file.items ≡ content_after l.calls l.fn.file.items
