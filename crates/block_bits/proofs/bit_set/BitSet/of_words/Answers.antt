use Rattle.std.proofs.Common.{rules, refl, sym, ap, ◌∙◌, arith, length, not, get_or, ◌<◌, ◌/◌, ◌%◌, ◌^◌}
use Rattle.std.proofs.lemmas.Bool.{lt-ltb, false≢true}
use Rattle.block_bits.specs.Flags.{flags, IsTight}
use Rattle.block_bits.proofs.Marks.{length-flags}
use Rattle.block_bits.proofs.Walked.{below_from}
use Rattle.block_bits.proofs.Numbers.{length-words_of, last_word, tight_from, words_are}
use Rattle.block_bits.proofs.bit_set.BitSet.of_words.Goals as goal

pub returns-then-len-div_ceil-clause-none : goal.returns-then-len-div_ceil-clause-none
returns-then-len-div_ceil-clause-none c = λ marks long same.
    c.if-len-div_ceil.true (omega (arith, c.len.ensures, c.div_ceil.ensures, ap length same, length-words_of marks, long))

pub returns-then-has_past-clause-none : goal.returns-then-has_past-clause-none
returns-then-has_past-clause-none c = λ marks long same.
    let short : get_or c.args.words.items (c.args.len / 64) 0 < 2 ^ (c.args.len % 64) = rw (same, ← long) (last_word marks) in
    false≢true (sym (ap not (lt-ltb _ _ short)) ∙ sym (rw c.as_slice.ensures.value at c.has_past.ensures) ∙ c.if-has_past.true)

tight : (c : goal.Else-has_past) → IsTight c.args.words.items c.args.len
tight c =
    tight_from c.args.words.items c.args.len (search rules) (omega (arith, c.len.ensures, c.div_ceil.ensures, c.if-len-div_ceil.false))
    (below_from _ _ (sym (rw c.as_slice.ensures.value at c.has_past.ensures) ∙ c.if-has_past.false))

pub invariant_of-result : goal.invariant_of-result
invariant_of-result c = tight c

pub returns-clause-set : goal.returns-clause-set
returns-clause-set c =
    (length-flags c.args.words.items c.args.len, words_are c.args.words.items c.args.len (flags c.args.words.items c.args.len) refl (tight c) (search rules))
