use Rattle.std.proofs.Common.{◌≡◌, length}
use Rattle.line_engine.proofs.Writing.{Written}
use Rattle.line_engine.proofs.session.write_whole.Given as goal

abbrev pub invariant-pieces : goal.invariant-pieces
invariant-pieces g l =
    Written (g.K.Sink.taken l.fn.sink) (g.K.Sink.taken l.sink) l.piece l.rest
    × (g.K.Sink.faults l.sink ≡ g.K.Sink.faults l.fn.sink)

abbrev pub decreases-pieces : goal.decreases-pieces
decreases-pieces g l = length l.rest
