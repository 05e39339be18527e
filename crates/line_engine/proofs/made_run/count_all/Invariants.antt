use Rattle.std.proofs.Common.{◌≤◌, ◌+◌, ◌^◌, List, ℕ, Option}
use Rattle.commit_store.specs.Known.{greatest_limit}
use Rattle.line_reader.specs.Seen.{KnowsEnd, ahead}
use Rattle.line_engine.specs.Counted.{Counted, no_totals}
use Rattle.line_engine.specs.Stopping.{disk_state}
use Rattle.machine.specs.State.{State}
use Rattle.machine.specs.declared.limits.Limits.{Limits}
use Rattle.line_engine.proofs.made_run.count_all.Given as goal

abbrev pub invariant-requests : goal.invariant-requests
invariant-requests g l =
    ((limits : Limits) (start : State) (left : Option (List ℕ)) (begun : g.row.D.Denot) → limits.store_bytes ≤ greatest_limit →
    Counted limits start left (g.S.Source.left l.fn.source)
    (disk_state (g.D.Disk.content begun) (g.D.Disk.image begun) (g.D.Disk.moment begun) (g.D.Disk.image_since begun) (g.D.Disk.faults begun))
    (disk_state (g.D.Disk.content l.fn.disk) (g.D.Disk.image l.fn.disk) (g.D.Disk.moment l.fn.disk) (g.D.Disk.image_since l.fn.disk) (g.D.Disk.faults l.fn.disk)) l.fn.session.reader.input l.fn.session.engine no_totals →
    Counted limits start left (g.S.Source.left l.source)
    (disk_state (g.D.Disk.content begun) (g.D.Disk.image begun) (g.D.Disk.moment begun) (g.D.Disk.image_since begun) (g.D.Disk.faults begun))
    (disk_state (g.D.Disk.content l.disk) (g.D.Disk.image l.disk) (g.D.Disk.moment l.disk) (g.D.Disk.image_since l.disk) (g.D.Disk.faults l.disk)) l.session.reader.input l.session.engine l.totals)
    × KnowsEnd l.session.reader.input (g.S.Source.left l.source)
    × (l.session.engine.calls + ahead l.session.reader.input ≤ 2 ^ 50)

abbrev pub decreases-requests : goal.decreases-requests
decreases-requests g l = ahead l.session.reader.input
