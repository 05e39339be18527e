use Rattle.std.proofs.Common.{drop}
use Rattle.segment_builder.specs.Blocks.{blocks_in}
use Rattle.store_opening.proofs.Owned.{Counting, live}
use Rattle.store_opening.proofs.blocks.put_ids.Given as goal

abbrev pub invariant-roots : goal.invariant-roots
invariant-roots l = Counting l.fn.ids (live (blocks_in l.entry)) (live (drop l.root (blocks_in l.entry))) l.ids
