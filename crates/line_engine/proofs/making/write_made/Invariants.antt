use Rattle.std.proofs.Common.{◌≡◌, length}
use Rattle.line_engine.specs.Made.{bytes_left}
use Rattle.line_engine.proofs.Writing.{Written}
use Rattle.line_engine.proofs.making.write_made.Given as goal

abbrev pub invariant-pieces : goal.invariant-pieces
invariant-pieces g l =
    Written (g.K.Sink.taken l.fn.sink) (g.K.Sink.taken l.sink) (bytes_left l.fn.made) (bytes_left l.made)
    × (g.K.Sink.faults l.sink ≡ g.K.Sink.faults l.fn.sink)

abbrev pub decreases-pieces : goal.decreases-pieces
decreases-pieces g l = length (bytes_left l.made)
