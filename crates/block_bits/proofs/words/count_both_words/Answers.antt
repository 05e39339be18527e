use Rattle.std.proofs.Common.{◌*◌, ◌+◌, rules, sym, arith, ◌∙◌}
use Rattle.block_bits.proofs.Counts.{set_below-le, set_below-zero}
use Rattle.block_bits.proofs.Shared.{words_of_both, shared_all, shared_more}
use Rattle.block_bits.proofs.words.count_both_words.Goals as goal

pub words-init : goal.words-init
words-init c = sym (set_below-zero (words_of_both c.args.ones.now c.args.others.now))

pub overflow_add-total : goal.overflow_add-total
overflow_add-total c =
    omega (
      arith,
      c.words.invariant,
      shared_more c.args.ones.now c.args.others.now c.words.place (search rules) (search rules),
      set_below-le (words_of_both c.args.ones.now c.args.others.now) (64 * (c.words.place + 1)),
      c.requires.few,
    )

pub words-preserved : goal.words-preserved
words-preserved c =
    omega (arith, c.words.invariant, shared_more c.args.ones.now c.args.others.now c.words.place (search rules) (search rules))

pub returns : goal.returns
returns c = λ len tight. c.words.invariant ∙ shared_all c.args.ones.now c.args.others.now len c.words.place tight (omega arith)
