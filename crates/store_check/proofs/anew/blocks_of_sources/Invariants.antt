use Rattle.std.proofs.Common.{map, take}
use Rattle.flattener.specs.Seen.{block_seen}
use Rattle.segment.specs.Flat.{flat_root}
use Rattle.store_check.specs.Made.{AreBlocksOf}
use Rattle.store_check.proofs.anew.blocks_of_sources.Given as goal

-- each root so far with its block
abbrev pub invariant-roots : goal.invariant-roots
invariant-roots g l = AreBlocksOf l.mapping (take l.root (map flat_root l.sources)) (map block_seen l.blocks.items)
