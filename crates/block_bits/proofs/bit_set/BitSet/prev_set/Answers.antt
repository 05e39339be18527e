use Rattle.std.proofs.Common.{refl, ◌<◌, ◌+◌, ◌-◌, ◌*◌, ◌/◌, length, rules, arith, sym}
use Rattle.std.specs.Int.{leading_zeros, w64}
use Rattle.std.proofs.lemmas.List.{get_or_read}
use Rattle.block_bits.proofs.Marks.{len_is}
use Rattle.block_bits.proofs.Search.{search_down_begins, search_down_goes_on, search_down_finds, highest, none_in_word_down, previous_of-found, previous_of-none, previous_of-nothing}
use Rattle.block_bits.proofs.bit_set.BitSet.prev_set.Goals as goal

pub returns-then-end-eq0-clause-value : goal.returns-then-end-eq0-clause-value
returns-then-end-eq0-clause-value c =
    sym (previous_of-nothing c.self.inside.words.items c.self.inside.len c.args.below _ c.self.view_is (omega (arith, c.min-end.ensures)))

pub words-init : goal.words-init
words-init c =
    let last = c.min-end.result - 1 in
    let there : last / 64 < length c.self.inside.words.items = omega (arith, c.min-end.ensures, c.self.invariant.long) in
    search_down_begins c.self.inside.words.items last c.index.result.now (search rules) (get_or_read c.self.inside.words.items (last / 64) _ there c.index.ensures 0)

pub words-preserved : goal.words-preserved
words-preserved c =
    let there : c.words.place - 1 < length c.self.inside.words.items = omega (arith, c.words.invariant.high, c.min-end.ensures, c.self.invariant.long) in
    search_down_goes_on c.self.inside.words.items (c.min-end.result - 1) c.words.place c.index-word.result.now (omega arith) (search rules)
    (get_or_read c.self.inside.words.items (c.words.place - 1) _ there c.index-word.ensures 0)
    (rw c.words-test.true at c.words.invariant)

pub returns-then-place-eq0-clause-value : goal.returns-then-place-eq0-clause-value
returns-then-place-eq0-clause-value c =
    let nothing = none_in_word_down c.self.inside.words.items (c.min-end.result - 1) c.words.place (rw c.words-test.true at c.words.invariant) in
    sym (previous_of-none c.self.inside.words.items c.self.inside.len c.args.below (c.min-end.result - 1) _ c.self.view_is (omega (arith, c.min-end.ensures))
    (λ k up_to. nothing k (omega arith) up_to))

-- the document that the highest bit of the word is
pub returns-clause-value : goal.returns-clause-value
returns-clause-value c =
    let bit = 63 - leading_zeros w64 c.words.word in
    let at = c.words.place * 64 + bit in
    let top = highest c.words.word bit (omega arith) c.words.invariant.fits refl in
    let previous = search_down_finds c.self.inside.words.items (c.min-end.result - 1) c.words.place c.words.word bit at top c.words.invariant (omega arith) in
    sym (previous_of-found c.self.inside.words.items c.self.inside.len c.args.below (c.min-end.result - 1) at _ c.self.view_is (omega (arith, c.min-end.ensures)) previous)

pub returns-clause-within : goal.returns-clause-within
returns-clause-within c =
    let bit = 63 - leading_zeros w64 c.words.word in
    let at = c.words.place * 64 + bit in
    let top = highest c.words.word bit (omega arith) c.words.invariant.fits refl in
    let previous = search_down_finds c.self.inside.words.items (c.min-end.result - 1) c.words.place c.words.word bit at top c.words.invariant (omega arith) in
    (omega (arith, previous.earlier, c.min-end.ensures), omega (arith, previous.earlier, c.min-end.ensures, len_is _ _ _ c.self.view_is))
