use Rattle.block_bits.proofs.Numbers.{one_set}
use Rattle.block_bits.proofs.laws.words_are_of_one_set.Goals as goal

pub returns : goal.returns
returns c = one_set
