use Rattle.std.proofs.Common.{◌≡◌, ◌+◌, ◌≤◌, map, drop}
use Rattle.flattener.specs.Seen.{block_seen}
use Rattle.segment_builder.specs.Blocks.{objects_of}
use Rattle.store_check.proofs.anew.are_few.Given as goal

abbrev pub invariant-counted : goal.invariant-counted
invariant-counted l =
    (l.total + objects_of (map block_seen (drop l.block-index l.blocks)) ≡ objects_of (map block_seen l.blocks))
    × (l.total ≤ 67_108_864)
