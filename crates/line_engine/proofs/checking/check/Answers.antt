use Rattle.std.proofs.Common.{ℕ, List, subst}
use Rattle.line_engine.specs.Printing.{Prints}
use Rattle.line_engine.proofs.Sound.{checks_printed}
use Rattle.line_engine.proofs.checking.check.Goals as goal

pub returns-in-Ok-clause-checks : goal.returns-in-Ok-clause-checks
returns-in-Ok-clause-checks g c =
    checks_printed c.print.result c.args.limit (g.D.Disk.content c.args.disk.now) (g.K.Sink.taken c.args.sink.now) (g.K.Sink.taken c.print.new.sink) c.in-Ok.line.bytes c.in-Ok.ensures.line
    (subst (λ (text : List ℕ). Prints c.print.result (g.K.Sink.taken c.args.sink.now) (g.K.Sink.taken c.print.new.sink) text) c.as_slice.ensures c.print.ensures.prints)
