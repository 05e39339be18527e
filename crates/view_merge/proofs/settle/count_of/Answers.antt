use Rattle.std.proofs.Common.{arith}
use Rattle.segment_builder.specs.Blocks.{blocks_in}
use Rattle.view_merge.proofs.Summaries.{fewer_live}
use Rattle.view_merge.proofs.settle.count_of.Goals as goal

pub overflow_sub-result : goal.overflow_sub-result
overflow_sub-result c = omega (arith, c.live_roots-live.ensures, c.roots.ensures, fewer_live (blocks_in c.args.entry.now))
