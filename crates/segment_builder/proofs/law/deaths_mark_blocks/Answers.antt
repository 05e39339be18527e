use Rattle.segment_builder.proofs.Deaths.{death}
use Rattle.segment_builder.specs.Blocks.{blocks_of}
use Rattle.segment_builder.proofs.law.deaths_mark_blocks.Goals as goal

pub returns : goal.returns
returns c = λ columns root live. death root (blocks_of columns) live.roots
