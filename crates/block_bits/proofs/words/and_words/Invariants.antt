use Rattle.std.proofs.Common.{◌&&◌}
use Rattle.block_bits.specs.Flags.{is_set}
use Rattle.block_bits.proofs.Combined.{Combined}
use Rattle.block_bits.proofs.words.and_words.Given as goal

abbrev pub invariant-words : goal.invariant-words
invariant-words l = Combined (λ at. is_set l.fn.words at && is_set l.others at) l.fn.words l.words l.place
