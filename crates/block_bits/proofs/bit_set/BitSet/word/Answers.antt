use Rattle.std.proofs.Common.{◌<◌, length, arith}
use Rattle.block_bits.proofs.Marks.{len_is, word-read}
use Rattle.block_bits.proofs.bit_set.BitSet.word.Goals as goal

pub index-requires : goal.index-requires
index-requires c = omega (arith, c.requires, len_is _ _ _ c.self.view_is, c.self.invariant.long, c.self.inside.words.ok.0)

pub returns : goal.returns
returns c =
    let there : c.args.place < length c.self.inside.words.items = omega (arith, c.requires, len_is _ _ _ c.self.view_is, c.self.invariant.long) in
    λ i h. word-read c.self.inside.words.items c.self.inside.len c.args.place i c.index.result.now c.args.self.now c.self.view_is c.self.invariant there c.index.ensures h
