use Rattle.line_engine.specs.Stopping.{disk_state}
use Rattle.line_engine.proofs.Counting.{counted_none, if_ok}
use Rattle.line_engine.proofs.made_run.totals_over.Goals as goal

pub returns-in-Ok : goal.returns-in-Ok
returns-in-Ok g c = if_ok c.count_all.result c.count_all.ensures (λ totals counted start starts.
    counted c.args.limits.now start (g.S.Source.left c.args.source.now) c.args.disk.now c.requires.store
    (counted_none c.args.limits.now start (g.S.Source.left c.args.source.now)
    (disk_state (g.D.Disk.content c.args.disk.now) (g.D.Disk.image c.args.disk.now) (g.D.Disk.moment c.args.disk.now) (g.D.Disk.image_since c.args.disk.now) (g.D.Disk.faults c.args.disk.now))
    (disk_state (g.D.Disk.content c.begin.new.disk) (g.D.Disk.image c.begin.new.disk) (g.D.Disk.moment c.begin.new.disk) (g.D.Disk.image_since c.begin.new.disk) (g.D.Disk.faults c.begin.new.disk))
    c.in-Ok.session.reader.input c.in-Ok.session.engine (c.in-Ok.ensures.given (g.S.Source.left c.args.source.now)) (c.in-Ok.ensures.stands start starts)))
