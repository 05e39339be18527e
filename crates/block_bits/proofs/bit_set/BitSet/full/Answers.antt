use Rattle.std.proofs.Common.{rules, ◌≡◌, ◌+◌, ◌/◌, length, arith}
use Rattle.block_bits.proofs.Ranges.{flags-full, IsTight-full}
use Rattle.block_bits.proofs.bit_set.BitSet.full.Goals as goal

-- as many words were pushed as the documents take
long : (c : goal.After-words) → length c.words.words.items ≡ (c.args.len + 63) / 64
long c = omega (arith, c.words.invariant.long, c.words-test.false, c.words.auto.place-end, c.div_ceil-count.ensures)

pub invariant_of-result : goal.invariant_of-result
invariant_of-result c = IsTight-full c.words.words.items c.args.len (search rules) c.words.invariant.full (long c)

pub returns : goal.returns
returns c = flags-full c.words.words.items c.args.len c.words.invariant.full (long c)
