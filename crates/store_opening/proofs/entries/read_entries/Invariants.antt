use Rattle.std.proofs.Common.{◌≡◌, ℕ, List, Some, length, take}
use Rattle.store_opening.specs.Entries.{AreNumbered, IsEntryOf, StandsFor}
use Rattle.store_opening.specs.Looking.{Looked}
use Rattle.store_opening.proofs.entries.read_entries.Given as goal

abbrev pub invariant-rows : goal.invariant-rows
invariant-rows g l =
    AreNumbered (IsEntryOf l.mapping l.old) 0 (take l.row-index l.rows) l.view
    × ((file : List ℕ) → g.D.Disk.content l.fn.disk ≡ Some file → AreNumbered (StandsFor l.old (length l.mapping.scopes) file) 0 (take l.row-index l.rows) l.view)
    × (length l.view ≡ l.row-index)
    × (g.D.Disk.content l.disk ≡ g.D.Disk.content l.fn.disk)
    × Looked (g.D.Disk.content l.fn.disk) (g.D.Disk.content l.disk) (g.D.Disk.image l.fn.disk) (g.D.Disk.image l.disk)
    (g.D.Disk.moment l.fn.disk) (g.D.Disk.moment l.disk) (g.D.Disk.image_since l.fn.disk) (g.D.Disk.image_since l.disk)
    × (g.D.Disk.faults l.disk ≡ g.D.Disk.faults l.fn.disk)
