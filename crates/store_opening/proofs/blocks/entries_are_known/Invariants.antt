use Rattle.std.proofs.Common.{take}
use Rattle.std.specs.List.{All}
use Rattle.store_opening.specs.Blocks.{IsKnownEntry}
use Rattle.store_opening.proofs.blocks.entries_are_known.Given as goal

abbrev pub invariant-entries : goal.invariant-entries
invariant-entries l = All IsKnownEntry (take l.entry-index l.entries)
