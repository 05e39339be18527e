use Rattle.std.proofs.Common.{arith}
use Rattle.segment_merge.proofs.Nested.{nested_room, nested_set}
use Rattle.segment_merge.proofs.new_ordinals.NewOrdinals.set.Goals as goal

pub index_mut-requires : goal.index_mut-requires
index_mut-requires c =
    omega (arith, nested_room c.self.inside.parts.items c.args.self.now c.args.place c.args.ordinal c.index_mut-own.result.now c.self.view_is c.index_mut-own.ensures.value c.requires, c.index_mut-own.result.now.ok.0)

pub returns : goal.returns
returns c = nested_set c.self.inside.parts.items c.args.self.now c.args.place c.args.ordinal c.args.new c.index_mut-own.result.now c.self.view_is c.index_mut-own.ensures.value c.requires
