use Rattle.block_bits.proofs.Search.{search_passes}
use Rattle.block_bits.proofs.words.next_word.Goals as goal

pub returns-clause-searched : goal.returns-clause-searched
returns-clause-searched c = λ from before.
    c.next_word_singly.ensures.searched from
    (search_passes c.args.words.now from c.next_word_singly-at.result.0 c.past_empty-far.result c.past_empty-far.ensures.behind c.past_empty-far.ensures.none
    (rw c.if-left-ne0.false at c.next_word_singly-at.ensures.searched from before))
