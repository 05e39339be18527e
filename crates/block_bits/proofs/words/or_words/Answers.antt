use Rattle.std.proofs.Common.{◌||◌, ap₂, arith}
use Rattle.block_bits.proofs.Combined.{Follows-or, combined_none, two_more, all_combined, is_set-past}
use Rattle.block_bits.proofs.words.or_words.Goals as goal

pub words-init : goal.words-init
words-init c = combined_none _ _

pub words-preserved : goal.words-preserved
words-preserved c = two_more (λ a b. a || b) c.args.words.now c.args.others.now c.words.words c.words.place _ (omega (arith, c.words.invariant.long)) c.words.invariant (Follows-or _ _)

pub returns-clause-long : goal.returns-clause-long
returns-clause-long c = c.words.invariant.long

pub returns-clause-each : goal.returns-clause-each
returns-clause-each c =
    all_combined _ c.args.words.now c.words.words c.words.place c.words.invariant (omega arith)
    (λ at past. ap₂ (λ a b. a || b) (is_set-past c.args.words.now at past) (is_set-past c.args.others.now at (omega (arith, past, c.requires))))
