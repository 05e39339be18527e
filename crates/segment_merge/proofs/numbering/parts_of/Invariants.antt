use Rattle.std.proofs.Common.{◌≡◌, ◌+◌, ◌++◌, drop}
use Rattle.segment_merge.specs.Merged.{live_count_of}
use Rattle.segment_merge.specs.Numbering.{parts_from}
use Rattle.segment_merge.proofs.numbering.parts_of.Given as goal

abbrev pub invariant-entries : goal.invariant-entries
invariant-entries l =
    (l.parts.items ++ parts_from l.base (drop l.entry-index l.entries) ≡ parts_from 0 l.entries)
    × (l.base + live_count_of (drop l.entry-index l.entries) ≡ live_count_of l.entries)
