use Rattle.segment.proofs.Deaths.{kill-within, kill-over}
use Rattle.segment.proofs.live_bits.LiveBits.kill.Goals as goal

pub clear_range-requires-clause-within : goal.clear_range-requires-clause-within
clear_range-requires-clause-within c =
    kill-within _ (record { docs = c.self.inside.docs; roots = c.self.inside.roots }) _ c.args.root c.block-from.result
    (record { seen = c.self.view_is; agree = c.block-from.ensures.agree; over = c.requires.over; alive = c.requires.live; edges = c.block-from.ensures.range })

pub returns-clause-over : goal.returns-clause-over
returns-clause-over c =
    kill-over _ (record { docs = c.self.inside.docs; roots = c.self.inside.roots }) _ c.args.root c.block-from.result _ _
    (record { seen = c.self.view_is; agree = c.block-from.ensures.agree; over = c.requires.over; alive = c.requires.live; edges = c.block-from.ensures.range })
    c.clear_range.ensures c.clear.ensures
