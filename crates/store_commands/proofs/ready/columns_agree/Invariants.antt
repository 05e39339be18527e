use Rattle.std.proofs.Common.{take}
use Rattle.std.specs.List.{All}
use Rattle.segment.specs.Live.{EntryState}
use Rattle.segment_parts.specs.Agree.{AreColumns}
use Rattle.store_commands.proofs.ready.columns_agree.Given as goal

abbrev pub invariant-entries : goal.invariant-entries
invariant-entries l = All (λ (entry : EntryState). AreColumns entry.columns) (take l.entry-index l.entries)
