use Rattle.block_bits.proofs.Marks.{word_is_there, flag-read}
use Rattle.block_bits.proofs.bit_set.BitSet.has.Goals as goal

pub index-requires : goal.index-requires
index-requires c =
    rw c.self.inside.words.ok.0 (word_is_there _ _ c.args.at _ c.self.view_is c.self.invariant c.requires)

pub returns : goal.returns
returns c = flag-read c.self.inside.words.items _ c.args.at _ _ c.self.view_is c.self.invariant c.requires c.index.ensures
