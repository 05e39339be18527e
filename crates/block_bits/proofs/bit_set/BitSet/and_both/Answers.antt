use Rattle.std.proofs.Common.{◌≡◌, length, sym, ap, ◌∙◌, arith}
use Rattle.std.proofs.lemmas.List.{with_items_is}
use Rattle.block_bits.proofs.Combined.{same_words, other_flags, value-both, tight-both}
use Rattle.block_bits.proofs.bit_set.BitSet.and_both.Goals as goal

pub and_both_words-requires-clause-one : goal.and_both_words-requires-clause-one
and_both_words-requires-clause-one c =
    ap length c.as_mut_slice.ensures.value ∙ same_words _ _ _ _ _ _ c.self.view_is c.one.view_is c.requires.one c.self.invariant c.one.invariant ∙ sym (ap length c.as_slice.ensures.value)

pub and_both_words-requires-clause-other : goal.and_both_words-requires-clause-other
and_both_words-requires-clause-other c =
    ap length c.as_mut_slice.ensures.value ∙ same_words _ _ _ _ _ _ c.self.view_is c.other.view_is c.requires.other c.self.invariant c.other.invariant ∙ sym (ap length c.as_slice-2.ensures.value)

pub invariant_of-self : goal.invariant_of-self
invariant_of-self c =
    let long : length c.and_both_words.new.words ≡ c.self.inside.words.len = omega (arith, c.and_both_words.ensures.long, c.as_mut_slice.ensures.len) in
    rw (with_items_is c.self.inside.words c.and_both_words.new.words long)
    (tight-both c.self.inside.words.items c.one.inside.words.items c.other.inside.words.items c.and_both_words.new.words c.self.inside.len c.self.invariant
    (c.and_both_words.ensures.long ∙ ap length c.as_mut_slice.ensures.value)
    (rw (c.as_mut_slice.ensures.value, c.as_slice.ensures.value, c.as_slice-2.ensures.value) at c.and_both_words.ensures.each))

pub returns : goal.returns
returns c =
    let long : length c.and_both_words.new.words ≡ c.self.inside.words.len = omega (arith, c.and_both_words.ensures.long, c.as_mut_slice.ensures.len) in
    rw (with_items_is c.self.inside.words c.and_both_words.new.words long)
    (value-both c.self.inside.words.items c.one.inside.words.items c.other.inside.words.items c.and_both_words.new.words _ _ _ _ c.self.view_is
    (other_flags _ _ _ _ _ _ c.self.view_is c.one.view_is c.requires.one)
    (other_flags _ _ _ _ _ _ c.self.view_is c.other.view_is c.requires.other)
    (rw (c.as_mut_slice.ensures.value, c.as_slice.ensures.value, c.as_slice-2.ensures.value) at c.and_both_words.ensures.each))
