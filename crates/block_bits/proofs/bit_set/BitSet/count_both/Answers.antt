use Rattle.std.proofs.Common.{◌≡◌, length, sym, ap, ap₂, ◌∙◌, arith}
use Rattle.std.specs.List.{count_by}
use Rattle.block_bits.specs.Flags.{is_marked, flags, intersection}
use Rattle.block_bits.proofs.Combined.{other_flags, same_words}
use Rattle.block_bits.proofs.Shared.{shared_few}
use Rattle.block_bits.proofs.bit_set.BitSet.count_both.Goals as goal

pub count_both_words-requires-clause-same : goal.count_both_words-requires-clause-same
count_both_words-requires-clause-same c =
    ap length c.as_slice.ensures.value ∙ same_words _ _ _ _ _ _ c.self.view_is c.other.view_is c.requires c.self.invariant c.other.invariant ∙ sym (ap length c.as_slice-2.ensures.value)

-- the words share as many documents as the sets
shared : (c : goal.After-count_both_words) → c.count_both_words.result ≡ count_by is_marked (intersection (flags c.self.inside.words.items c.self.inside.len) (flags c.other.inside.words.items c.self.inside.len))
shared c = (rw (c.as_slice.ensures.value, c.as_slice-2.ensures.value) at c.count_both_words.ensures) c.self.inside.len c.self.invariant

pub overflow_cast-result : goal.overflow_cast-result
overflow_cast-result c =
    omega (arith, shared c, shared_few c.self.inside.words.items c.other.inside.words.items c.self.inside.len, c.self.invariant.small)

pub returns : goal.returns
returns c =
    shared c
    ∙ ap₂ (λ ones others. count_by is_marked (intersection ones others)) c.self.view_is (other_flags _ _ _ _ _ _ c.self.view_is c.other.view_is c.requires)
