use Rattle.std.proofs.Common.{drop}
use Rattle.segment_builder.specs.Blocks.{blocks_in}
use Rattle.index_core.proofs.Entering.{IsPending, live}
use Rattle.index_core.proofs.opening.add_entry.Given as goal

abbrev pub invariant-roots : goal.invariant-roots
invariant-roots l = IsPending (live (blocks_in l.entry)) (live (drop l.root (blocks_in l.entry))) l.fn.numbers l.numbers
