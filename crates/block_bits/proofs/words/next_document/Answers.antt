use Rattle.block_bits.proofs.words.next_document.Goals as goal

pub returns-clause-answer : goal.returns-clause-answer
returns-clause-answer c = λ from before. record {
  some = c.requires.some;
  searched = c.next_word-at.ensures.searched from before;
  up_to = c.next_word-at.ensures.up_to;
  first = c.first_in.ensures.found;
  none = c.first_in.ensures.none;
}
