use Rattle.std.proofs.Common.{◌&&◌, not, ◌≡◌, length, refl, sym, ap, ◌∙◌, arith}
use Rattle.std.proofs.lemmas.List.{with_items_is}
use Rattle.block_bits.proofs.Combined.{same_words, value-combined, tight-combined}
use Rattle.block_bits.proofs.bit_set.BitSet.and_not.Goals as goal

pub and_not_words-requires : goal.and_not_words-requires
and_not_words-requires c =
    ap length c.as_mut_slice.ensures.value ∙ same_words _ _ _ _ _ _ c.self.view_is c.other.view_is c.requires c.self.invariant c.other.invariant ∙ sym (ap length c.as_slice.ensures.value)

pub invariant_of-self : goal.invariant_of-self
invariant_of-self c =
    let long : length c.and_not_words.new.words ≡ c.self.inside.words.len = omega (arith, c.and_not_words.ensures.long, c.as_mut_slice.ensures.len) in
    rw (with_items_is c.self.inside.words c.and_not_words.new.words long)
    (tight-combined (λ a b. a && not b) refl c.self.inside.words.items c.other.inside.words.items c.and_not_words.new.words _ _ _ _ c.self.view_is c.other.view_is c.requires c.self.invariant c.other.invariant
    (c.and_not_words.ensures.long ∙ ap length c.as_mut_slice.ensures.value)
    (rw (c.as_mut_slice.ensures.value, c.as_slice.ensures.value) at c.and_not_words.ensures.each))

pub returns : goal.returns
returns c =
    let long : length c.and_not_words.new.words ≡ c.self.inside.words.len = omega (arith, c.and_not_words.ensures.long, c.as_mut_slice.ensures.len) in
    rw (with_items_is c.self.inside.words c.and_not_words.new.words long)
    (value-combined (λ a b. a && not b) c.self.inside.words.items c.other.inside.words.items c.and_not_words.new.words _ _ _ _ c.self.view_is c.other.view_is c.requires
    (rw (c.as_mut_slice.ensures.value, c.as_slice.ensures.value) at c.and_not_words.ensures.each))
