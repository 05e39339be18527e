use Rattle.std.proofs.Common.{◌∙◌}
use Rattle.index_core.proofs.Laying.{live_number, nothing_new}
use Rattle.index_core.proofs.write.take_live.Goals as goal

pub take_out-requires : goal.take_out-requires
take_out-requires c = live_number c.args.blocks.now.entries c.args.blocks.now.buffer c.args.id.now c.args.old c.requires

pub returns-clause-layout : goal.returns-clause-layout
returns-clause-layout c = c.in_ok-take_out.ensures.killed c.args.id.now c.requires.block c.requires.ids c.requires.live ∙ nothing_new _
