use Rattle.std.proofs.Common.{◌∙◌}
use Rattle.segment_builder.proofs.InOrder.{are_groups}
use Rattle.segment_builder.proofs.grouping.grouped.Goals as goal

pub returns : goal.returns
returns g c =
    are_groups g.K.Ord.cmp g.met.K.Ord.total _ _ (λ key. c.in_ok-gathered.ensures.gather key ∙ c.in_ok-sort.ensures.same key) c.in_ok-gathered.ensures.ordered
