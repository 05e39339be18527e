use Rattle.std.proofs.Common.{arith}
use Rattle.block_bits.proofs.Search.{none_more}
use Rattle.block_bits.proofs.words.run_word.Goals as goal

pub run-init : goal.run-init
run-init c = λ zero place low high. absurd (omega arith)

pub run-preserved : goal.run-preserved
run-preserved c = none_more c.args.words.now c.args.first c.run.place c.run.all c.run.invariant

pub returns : goal.returns
returns c = λ zero place low high. c.run.invariant zero place low (omega arith)
