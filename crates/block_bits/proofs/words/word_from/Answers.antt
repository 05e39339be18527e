use Rattle.std.proofs.Common.{rules, refl, get_or, ◌/◌}
use Rattle.block_bits.proofs.Search.{search_begins}
use Rattle.block_bits.proofs.words.word_from.Goals as goal

pub returns-then-place-words : goal.returns-then-place-words
returns-then-place-words c =
    search_begins c.args.words.now c.args.from (get_or c.args.words.now (c.args.from / 64) 0) (search rules)
    refl
