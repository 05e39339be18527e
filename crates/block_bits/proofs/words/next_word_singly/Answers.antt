use Rattle.std.proofs.Common.{rules, refl, ◌+◌, get_or}
use Rattle.block_bits.proofs.Search.{search_goes_on}
use Rattle.block_bits.proofs.words.next_word_singly.Goals as goal

pub words-preserved : goal.words-preserved
words-preserved c = λ from before.
    search_goes_on c.args.words.now from c.words.at (get_or c.args.words.now (c.words.at + 1) 0) (search rules) refl (rw c.words-test.true at c.words.invariant from before)
