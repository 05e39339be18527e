use Rattle.std.proofs.Common.{◌≡◌, ℕ, ◌-◌, ◌≤◌, List, Some, length, take, drop}
use Rattle.store_opening.specs.Looking.{Looked}
use Rattle.store_opening.proofs.device.read_whole.Given as goal

abbrev pub invariant-bytes : goal.invariant-bytes
invariant-bytes g l =
    ((file : List ℕ) → g.D.Disk.content l.fn.disk ≡ Some file → take l.done l.into ≡ take l.done (drop l.at file))
    × (l.done ≤ length l.into)
    × (length l.into ≡ length l.fn.into)
    × (g.D.Disk.content l.disk ≡ g.D.Disk.content l.fn.disk)
    × Looked (g.D.Disk.content l.fn.disk) (g.D.Disk.content l.disk) (g.D.Disk.image l.fn.disk) (g.D.Disk.image l.disk)
    (g.D.Disk.moment l.fn.disk) (g.D.Disk.moment l.disk) (g.D.Disk.image_since l.fn.disk) (g.D.Disk.image_since l.disk)
    × (g.D.Disk.faults l.disk ≡ g.D.Disk.faults l.fn.disk)

abbrev pub decreases-bytes : goal.decreases-bytes
decreases-bytes g l = length l.into - l.done
