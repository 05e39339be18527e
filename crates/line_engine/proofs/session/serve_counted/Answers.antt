use Rattle.std.proofs.Common.{sym, ◌∙◌}
use Rattle.std.proofs.lemmas.Bool.{false≢true}
use Rattle.line_engine.specs.Stopping.{disk_state}
use Rattle.line_engine.proofs.Beginning.{cause_begun, cause_unbegun, counts_of, file_begun, not_begun, not_unbegun, served_start}
use Rattle.line_engine.proofs.session.serve_counted.Goals as goal

pub returns-in-Ok-clause-serves : goal.returns-in-Ok-clause-serves
returns-in-Ok-clause-serves g c = λ start starts.
    c.serve_all.ensures.serves c.args.limits.now start (g.S.Source.left c.args.source.now) (g.K.Sink.taken c.args.sink.now) c.args.disk.now c.requires.limits.store
    (served_start c.args.limits.now start (g.S.Source.left c.args.source.now) (g.K.Sink.taken c.args.sink.now)
    (disk_state (g.D.Disk.content c.args.disk.now) (g.D.Disk.image c.args.disk.now) (g.D.Disk.moment c.args.disk.now) (g.D.Disk.image_since c.args.disk.now) (g.D.Disk.faults c.args.disk.now))
    (disk_state (g.D.Disk.content c.begin.new.disk) (g.D.Disk.image c.begin.new.disk) (g.D.Disk.moment c.begin.new.disk) (g.D.Disk.image_since c.begin.new.disk) (g.D.Disk.faults c.begin.new.disk))
    c.in-Ok.session.reader.input c.in-Ok.session.engine (c.in-Ok.ensures.given (g.S.Source.left c.args.source.now)) (c.in-Ok.ensures.stands start starts))

pub returns-in-Ok-clause-file : goal.returns-in-Ok-clause-file
returns-in-Ok-clause-file g c = λ bytes is. file_begun c.serve_all.result c.args.limits.now.store_bytes bytes c.serve_all.ensures.begun (c.in-Ok.ensures.stored bytes is)

pub returns-in-Ok-clause-cause : goal.returns-in-Ok-clause-cause
returns-in-Ok-clause-cause g c = cause_begun c.serve_all.result (g.S.Source.faults c.args.source.now) (g.K.Sink.faults c.args.sink.now) (g.D.Disk.faults c.args.disk.now) (g.D.Disk.faults c.begin.new.disk)
    (counts_of (g.S.Source.faults c.serve_all.new.source) (g.K.Sink.faults c.serve_all.new.sink) (g.D.Disk.faults c.serve_all.new.disk))
    c.serve_all.ensures.begun c.in-Ok.ensures.same c.serve_all.ensures.cause

pub returns-in-Ok-clause-untouched : goal.returns-in-Ok-clause-untouched
returns-in-Ok-clause-untouched g c = λ unbegun. absurd (false≢true (sym unbegun ∙ c.serve_all.ensures.begun))

pub returns-in-Ok-clause-words : goal.returns-in-Ok-clause-words
returns-in-Ok-clause-words g c = λ bad. not_begun c.serve_all.result c.serve_all.ensures.begun bad

pub returns-clause-words : goal.returns-clause-words
returns-clause-words g c = λ bad. not_unbegun c.in-Err.status (g.D.Disk.faults c.args.disk.now) (g.D.Disk.faults c.begin.new.disk) c.in-Err.ensures.cause bad

pub returns-clause-serves : goal.returns-clause-serves
returns-clause-serves g c = λ start starts. c.in-Err.ensures.serves start (g.S.Source.left c.args.source.now) (g.K.Sink.taken c.args.sink.now) starts

pub returns-clause-cause : goal.returns-clause-cause
returns-clause-cause g c = cause_unbegun c.in-Err.status (g.S.Source.faults c.args.source.now) (g.K.Sink.faults c.args.sink.now) (g.D.Disk.faults c.args.disk.now) (g.D.Disk.faults c.begin.new.disk) c.in-Err.ensures.cause
