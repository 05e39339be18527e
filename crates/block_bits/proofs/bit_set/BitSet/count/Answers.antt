use Rattle.std.proofs.Common.{◌≡◌, ◌*◌, rules, arith, sym, ap, ◌∙◌, length, ◌+◌}
use Rattle.std.specs.List.{count_by}
use Rattle.std.proofs.lemmas.List.Sums.{count_by-le-length}
use Rattle.block_bits.specs.Flags.{is_marked}
use Rattle.block_bits.proofs.Marks.{len_is}
use Rattle.block_bits.proofs.Counts.{set_below-le, set_below-zero, set_below-word, set_below-all}
use Rattle.block_bits.proofs.bit_set.BitSet.count.Goals as goal

pub words-init : goal.words-init
words-init c = sym (set_below-zero c.deref-word-items.result.now)

pub overflow_add-total : goal.overflow_add-total
overflow_add-total c =
    let words = c.deref-word-items.result.now in
    omega (
      arith,
      c.words.invariant,
      set_below-word words c.words.word-index (search rules),
      set_below-le words (64 * (c.words.word-index + 1)),
      c.self.invariant.small,
      c.self.invariant.long,
      ap length c.deref-word-items.ensures.value,
    )

pub words-preserved : goal.words-preserved
words-preserved c =
    omega (arith, c.words.invariant, set_below-word c.deref-word-items.result.now c.words.word-index (search rules))

-- every word was counted
total_is : (c : goal.After-words) → c.words.total ≡ count_by is_marked c.args.self.now
total_is c =
    c.words.invariant
    ∙ rw c.deref-word-items.ensures.value
    (set_below-all _ _ _ _ c.self.view_is c.self.invariant (omega (arith, ap length c.deref-word-items.ensures.value)))

pub overflow_cast-result : goal.overflow_cast-result
overflow_cast-result c =
    omega (arith, total_is c, count_by-le-length is_marked c.args.self.now, len_is _ _ _ c.self.view_is, c.self.invariant.small)

pub returns : goal.returns
returns c = total_is c
