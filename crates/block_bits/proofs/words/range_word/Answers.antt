use Rattle.std.proofs.Common.{rules, ◌<◌, ◌^◌}
use Rattle.block_bits.proofs.Ranges.{range_bits}
use Rattle.block_bits.proofs.words.range_word.Goals as goal

pub returns : goal.returns
returns c = λ i h.
    let below = c.full_word.ensures i h in
    let before = c.full_word-2.ensures i h in
    let fits : c.full_word-2.result < 2 ^ 64 = search rules in
    range_bits c.args.start c.args.from c.args.end c.full_word.result c.full_word-2.result i fits h
    (rw c.saturating_sub.ensures at below) (rw c.saturating_sub-2.ensures at before)
