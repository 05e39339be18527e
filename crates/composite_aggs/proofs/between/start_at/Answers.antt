use Rattle.std.proofs.Common.{arith}
use Rattle.composite_aggs.proofs.Filling.{number_here, number_past}
use Rattle.composite_aggs.proofs.between.start_at.Goals as goal

pub returns-then-index-kept : goal.returns-then-index-kept
returns-then-index-kept c =
    number_here c.args.kept.now c.args.index c.index-kept-index.result c.as_slice.result.now c.first_number.result (omega arith) c.as_slice.ensures c.first_number.ensures

pub returns-else-index-kept : goal.returns-else-index-kept
returns-else-index-kept c = number_past c.args.kept.now c.args.index (omega arith)
