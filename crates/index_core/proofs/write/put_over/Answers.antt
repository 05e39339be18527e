use Rattle.std.proofs.Common.{◌∷◌, [], ap, ◌∙◌}
use Rattle.flattener.specs.Seen.{block_seen}
use Rattle.layout.specs.Layout.{killed, with_new}
use Rattle.index_core.specs.Kept.{has_block_id}
use Rattle.index_core.proofs.Laying.{layout_more, layout_same, live_moved, live_number}
use Rattle.index_core.proofs.write.put_over.Goals as goal

pub take_out-requires : goal.take_out-requires
take_out-requires c =
    live_number c.reserve.new.self.entries c.reserve.new.self.buffer c.args.block.root.id c.args.old
    (live_moved c.args.blocks.now.entries c.reserve.new.self.entries c.args.blocks.now.buffer c.reserve.new.self.buffer c.args.block.root.id c.args.old c.reserve.ensures.entries c.reserve.ensures.buffer c.requires.live)

pub returns-clause-layout : goal.returns-clause-layout
returns-clause-layout c =
    let has = live_moved c.args.blocks.now.entries c.reserve.new.self.entries c.args.blocks.now.buffer c.reserve.new.self.buffer c.args.block.root.id c.args.old c.reserve.ensures.entries c.reserve.ensures.buffer c.requires.live in
    layout_more c.take_out.new.self c.push.new.self (block_seen c.args.block ∷ []) c.push.ensures.entries c.push.ensures.buffer
    (record { made = c.push.ensures.made; jobs = c.push.ensures.jobs; started = c.push.ensures.started; factor = c.push.ensures.factor })
    ∙ ap (with_new (block_seen c.args.block ∷ []))
    (c.in_ok-take_out.ensures.killed c.args.block.root.id has.block has.ids has.live
    ∙ ap (killed (has_block_id c.args.block.root.id))
    (layout_same c.args.blocks.now c.reserve.new.self c.reserve.ensures.entries c.reserve.ensures.buffer
    (record { made = c.reserve.ensures.made; jobs = c.reserve.ensures.jobs; started = c.reserve.ensures.started; factor = c.reserve.ensures.factor })))
