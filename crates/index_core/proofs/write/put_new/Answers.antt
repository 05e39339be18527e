use Rattle.std.proofs.Common.{◌∷◌, [], ◌++◌, ap, ◌∙◌}
use Rattle.flattener.specs.Seen.{block_seen}
use Rattle.index_core.proofs.Laying.{layout_more}
use Rattle.index_core.proofs.write.put_new.Goals as goal

pub returns-clause-layout : goal.returns-clause-layout
returns-clause-layout c =
    layout_more c.args.blocks.now c.push.new.self (block_seen c.args.block ∷ [])
    (c.push.ensures.entries ∙ c.reserve.ensures.entries) (c.push.ensures.buffer ∙ ap (λ bs. bs ++ block_seen c.args.block ∷ []) c.reserve.ensures.buffer)
    (record {
      made = c.push.ensures.made ∙ c.reserve.ensures.made;
      jobs = c.push.ensures.jobs ∙ c.reserve.ensures.jobs;
      started = c.push.ensures.started ∙ c.reserve.ensures.started;
      factor = c.push.ensures.factor ∙ c.reserve.ensures.factor;
    })
