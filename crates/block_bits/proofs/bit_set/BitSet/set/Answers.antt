use Rattle.std.proofs.Common.{true}
use Rattle.block_bits.proofs.Marks.{word_is_there, tight-changed, value-changed, IsChangedAt-set}
use Rattle.block_bits.proofs.bit_set.BitSet.set.Goals as goal

pub index_mut-requires : goal.index_mut-requires
index_mut-requires c =
    rw c.self.inside.words.ok.0 (word_is_there _ _ c.args.at _ c.self.view_is c.self.invariant c.requires)

pub invariant_of-self : goal.invariant_of-self
invariant_of-self c =
    let there = word_is_there _ _ c.args.at _ c.self.view_is c.self.invariant c.requires in
    tight-changed c.self.inside.words.items c.self.inside.len c.args.at _ true _ c.self.view_is c.self.invariant c.requires
    (IsChangedAt-set c.self.inside.words.items c.args.at c.index_mut.result.now there c.index_mut.ensures.value)

pub returns : goal.returns
returns c =
    let there = word_is_there _ _ c.args.at _ c.self.view_is c.self.invariant c.requires in
    value-changed c.self.inside.words.items c.self.inside.len c.args.at _ true _ c.self.view_is c.self.invariant c.requires
    (IsChangedAt-set c.self.inside.words.items c.args.at c.index_mut.result.now there c.index_mut.ensures.value)
