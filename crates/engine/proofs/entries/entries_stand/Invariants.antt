use Rattle.std.proofs.Common.{take}
use Rattle.std.specs.List.{All}
use Rattle.engine.proofs.Finding.{IsStanding}
use Rattle.engine.proofs.entries.entries_stand.Given as goal

abbrev pub invariant-entries : goal.invariant-entries
invariant-entries l = All IsStanding (take l.entry-index l.entries)
