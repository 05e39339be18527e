use Rattle.std.proofs.Common.{arith}
use Rattle.block_bits.proofs.Marks.{len_is}
use Rattle.block_bits.proofs.Walked.{answer_is, answer_within}
use Rattle.block_bits.proofs.bit_set.BitSet.next_set_before.Goals as goal

pub next_document-requires-clause-within : goal.next_document-requires-clause-within
next_document-requires-clause-within c =
    rw c.as_slice-words.ensures.value
    (omega (arith, c.requires, c.self.invariant.long, len_is _ _ _ c.self.view_is))

pub returns-clause-value : goal.returns-clause-value
returns-clause-value c =
    answer_is c.self.inside.words.items c.self.inside.len c.args.from c.next_document.result.0 c.next_document.result.1 c.args.end c.args.self.now c.next_document.result.2 c.self.view_is c.requires
    (rw (← c.as_slice-words.ensures.value) (c.next_document.ensures.answer c.args.from c.word_from.ensures))

pub returns-clause-within : goal.returns-clause-within
returns-clause-within c = answer_within _ _ _ _ _ _ (c.next_document.ensures.answer c.args.from c.word_from.ensures)
