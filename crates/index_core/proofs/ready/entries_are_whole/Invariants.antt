use Rattle.std.proofs.Common.{take}
use Rattle.index_core.specs.Found.{AreWhole}
use Rattle.index_core.proofs.ready.entries_are_whole.Given as goal

abbrev pub invariant-entries : goal.invariant-entries
invariant-entries l = AreWhole (take l.entry-index l.entries)
