use Rattle.std.proofs.Common.{◌≡◌, ◌+◌, ◌++◌, drop}
use Rattle.std.specs.List.{count_by}
use Rattle.block_bits.specs.Flags.{is_marked}
use Rattle.segment_merge.specs.Numbering.{numbers_from}
use Rattle.segment_merge.proofs.numbering.numbers_of.Given as goal

abbrev pub invariant-docs : goal.invariant-docs
invariant-docs l =
    (l.numbers.items ++ numbers_from l.next (drop l.doc l.live) ≡ numbers_from l.base l.live)
    × (l.next + count_by is_marked (drop l.doc l.live) ≡ l.base + count_by is_marked l.live)
