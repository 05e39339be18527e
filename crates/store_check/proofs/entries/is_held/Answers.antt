use Rattle.store_check.proofs.Compared.{held_where}
use Rattle.store_check.proofs.entries.is_held.Goals as goal

pub returns : goal.returns
returns c =
    held_where c.args.mapping.now c.args.entry.now c.segment-segment.result.now c.in_ok-is.is'
    c.segment-segment.ensures c.blocks_are_whole.ensures.roots c.live-live.ensures.over c.in_ok-is.ensures
