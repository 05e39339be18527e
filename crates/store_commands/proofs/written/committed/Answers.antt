use Rattle.std.proofs.Common.{Some}
use Rattle.store_commands.proofs.Images.{kept_sealed}
use Rattle.store_commands.proofs.Known.{known_behind}
use Rattle.store_commands.proofs.written.committed.Goals as goal

pub returns-in-Ok-clause-known : goal.returns-in-Ok-clause-known
returns-in-Ok-clause-known g c =
    let are = c.view_is_committable.ensures in
    known_behind c.args.index.now c.args.store.now c.compacted.new.store are.ids are.items (rw c.view.ensures.view at c.in-Ok.ensures.stored.entries) c.requires.known

pub returns-in-Ok-clause-stores : goal.returns-in-Ok-clause-stores
returns-in-Ok-clause-stores g c = λ told found keeps.
    let done = rw (c.next.ensures.next, c.view.ensures.view) at c.in-Ok.ensures.done told found keeps in
    kept_sealed c.args.store.now.limit (g.D.Disk.image c.args.disk.now) c.args.mapping.now c.args.index.now c.compacted.new.store found (Some done.commit) (g.D.Disk.image c.compacted.new.disk)
    (g.D.Disk.moment c.args.disk.now) (g.D.Disk.moment c.compacted.new.disk) (g.D.Disk.image_since c.args.disk.now) (g.D.Disk.image_since c.compacted.new.disk) c.requires.emptied done.step

pub returns-in-Err-clause-stores : goal.returns-in-Err-clause-stores
returns-in-Err-clause-stores g c = λ told found keeps.
    let step = rw (c.next.ensures.next, c.view.ensures.view) at c.in-Err.ensures.failed told found keeps in
    kept_sealed c.args.store.now.limit (g.D.Disk.image c.args.disk.now) c.args.mapping.now c.args.index.now c.compacted.new.store found found (g.D.Disk.image c.compacted.new.disk)
    (g.D.Disk.moment c.args.disk.now) (g.D.Disk.moment c.compacted.new.disk) (g.D.Disk.image_since c.args.disk.now) (g.D.Disk.image_since c.compacted.new.disk) c.requires.emptied step
