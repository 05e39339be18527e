use Rattle.std.proofs.Common.{sym, ap, ◌∙◌, arith}
use Rattle.std.specs.List.{find}
use Rattle.segment_builder.specs.Blocks.{objects_of}
use Rattle.index_core.specs.Found.{live_blocks}
use Rattle.index_core.specs.Kept.{has_block_id}
use Rattle.index_core.proofs.Changing.{objects_without, objects_same}
use Rattle.index_core.proofs.Keeping.{has_live, none_live}
use Rattle.index_core.proofs.Laying.{live_number}
use Rattle.index_core.proofs.write.objects_without.Goals as goal

pub objects_with-requires : goal.objects_with-requires
objects_with-requires c =
    live_number c.args.blocks.now.entries c.args.blocks.now.buffer c.requires.old.0 c.in-Some.number
    (has_live c.args.blocks.now.entries c.args.blocks.now.buffer c.requires.old.0 c.args.old c.in-Some.number c.requires.old.1 c.in-Some.is)

pub overflow_sub-result : goal.overflow_sub-result
overflow_sub-result c =
    let has = has_live c.args.blocks.now.entries c.args.blocks.now.buffer c.requires.old.0 c.args.old c.in-Some.number c.requires.old.1 c.in-Some.is in
    omega (arith, objects_without c.requires.old.0 has.block (live_blocks c.args.blocks.now.entries c.args.blocks.now.buffer) has.ids has.live.found, c.objects_with.ensures c.requires.old.0 has.block has.live, c.requires.live)

pub returns-in-Some-clause-staying : goal.returns-in-Some-clause-staying
returns-in-Some-clause-staying c = λ id old.
    let has = has_live c.args.blocks.now.entries c.args.blocks.now.buffer id c.args.old c.in-Some.number old c.in-Some.is in
    omega (arith, objects_without id has.block (live_blocks c.args.blocks.now.entries c.args.blocks.now.buffer) has.ids has.live.found, c.objects_with.ensures id has.block has.live, c.requires.live)

pub returns-in-None-clause-staying : goal.returns-in-None-clause-staying
returns-in-None-clause-staying c = λ id old.
    let blocks = live_blocks c.args.blocks.now.entries c.args.blocks.now.buffer in
    c.requires.live ∙ ap objects_of (sym (objects_same id blocks (none_live (find (has_block_id id) blocks) (old.live ∙ c.in-None.is))))
