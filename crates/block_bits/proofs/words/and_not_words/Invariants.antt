use Rattle.std.proofs.Common.{◌&&◌, not}
use Rattle.block_bits.specs.Flags.{is_set}
use Rattle.block_bits.proofs.Combined.{Combined}
use Rattle.block_bits.proofs.words.and_not_words.Given as goal

abbrev pub invariant-words : goal.invariant-words
invariant-words l = Combined (λ at. is_set l.fn.words at && not (is_set l.others at)) l.fn.words l.words l.place
