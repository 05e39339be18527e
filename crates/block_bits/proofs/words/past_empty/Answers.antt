use Rattle.std.proofs.Common.{arith}
use Rattle.block_bits.proofs.Search.{none_further}
use Rattle.block_bits.proofs.words.past_empty.Goals as goal

pub runs-init : goal.runs-init
runs-init c = record { behind = omega arith; none = λ place low high. absurd (omega arith) }

pub runs-preserved : goal.runs-preserved
runs-preserved c = record {
  behind = omega arith;
  none = none_further c.args.words.now c.args.at c.runs.far c.runs.invariant.none (c.run_word-all.ensures c.if-all-ne0.false);
}
