use Rattle.std.proofs.Common.{◌≡◌, map, take}
use Rattle.disk.specs.Stops.{IsTold, Passes, Within}
use Rattle.commit_images.specs.Writes.{piece_of, LeftBy, TakesEach}
use Rattle.commit_images.proofs.writes.write_each.Given as goal

abbrev pub invariant-writes : goal.invariant-writes
invariant-writes g l =
    TakesEach (map piece_of (take l.block-index l.blocks)) (g.D.Disk.content l.fn.disk) (g.D.Disk.content l.disk)
    × (IsTold (g.D.Disk.content l.disk) → IsTold (g.D.Disk.content l.fn.disk))
    × Within (g.D.Disk.image l.disk) (LeftBy (map piece_of (take l.block-index l.blocks)) (g.D.Disk.image l.fn.disk))
    × Passes (g.D.Disk.moment l.fn.disk) (g.D.Disk.moment l.disk) (g.D.Disk.image_since l.fn.disk) (g.D.Disk.image_since l.disk)
    (LeftBy (map piece_of l.blocks) (g.D.Disk.image l.fn.disk))
    × (g.D.Disk.faults l.disk ≡ g.D.Disk.faults l.fn.disk)
