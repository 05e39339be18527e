use Rattle.std.proofs.Common.{ap}
use Rattle.request_form.specs.Seen.{action_view, write_view}
use Rattle.engine.proofs.engine.Engine.perform.Goals as goal

pub write-requires-clause-formed : goal.write-requires-clause-formed
write-requires-clause-formed g c = c.requires.formed.writes (write_view c.in-Write.it) (ap action_view c.in-Write.is)
