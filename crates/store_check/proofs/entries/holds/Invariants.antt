use Rattle.std.proofs.Common.{take}
use Rattle.std.specs.List.{All}
use Rattle.store_check.specs.Held.{IsHeld}
use Rattle.store_check.proofs.entries.holds.Given as goal

abbrev pub invariant-entries : goal.invariant-entries
invariant-entries l = All (IsHeld l.mapping) (take l.entry-index l.entry-items)
