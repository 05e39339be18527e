use Rattle.std.proofs.Common.{All, take}
use Rattle.segment_merge.specs.Mergeable.{IsKnown}
use Rattle.segment_merge.proofs.law.entries_are_known.Given as goal

abbrev pub invariant-entries : goal.invariant-entries
invariant-entries l = All IsKnown (take l.entry-index l.entries)
