use Rattle.block_bits.proofs.Marks.{len_is}
use Rattle.block_bits.proofs.bit_set.BitSet.len.Goals as goal

pub returns : goal.returns
returns c = len_is c.self.inside.words.items _ _ c.self.view_is
