use Rattle.block_bits.proofs.Numbers.{words_are}
use Rattle.block_bits.proofs.bit_set.BitSet.words.Goals as goal

pub returns : goal.returns
returns c =
    rw c.as_slice-2.ensures.value
    (words_are c.self.inside.words.items c.self.inside.len c.args.self.now c.self.view_is c.self.invariant
    (λ place below. rw (← c.as_slice.ensures.value) (c.words_fit.ensures place)))
