use Rattle.std.proofs.Common.{ap, ◌∙◌}
use Rattle.segment_builder.specs.Blocks.{blocks_in}
use Rattle.view_merge.proofs.Alive.{blocks_alive}
use Rattle.view_merge.proofs.entry.alive_entry.Goals as goal

pub returns-clause-blocks : goal.returns-clause-blocks
returns-clause-blocks c = ap blocks_in c.in_ok-new.ensures ∙ blocks_alive c.args.segment c.in_ok-live.live c.blocks_are_whole.ensures.roots c.in_ok-live.ensures.over c.in_ok-live.ensures.dead
