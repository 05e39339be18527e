use Rattle.std.proofs.Common.{refl, ◌∙◌}
use Rattle.segment_builder.proofs.InOrder.{begun_groups, begun_up_to}
use Rattle.segment_builder.proofs.Keys.{begun_in}
use Rattle.segment_builder.proofs.grouping.begin.Goals as goal

pub returns-clause-gather : goal.returns-clause-gather
returns-clause-gather g c = λ any.
    begun_in g.K.Ord.cmp g.met.K.Ord.total any c.args.key c.args.member _ _ _ c.in_ok-push-2.ensures.items (c.in_ok-push.ensures.items ∙ rw c.new-members.ensures.items refl)

pub returns-clause-ordered : goal.returns-clause-ordered
returns-clause-ordered g c =
    begun_groups g.K.Ord.cmp g.met.K.Ord.total c.args.key c.args.member _ _ _ c.in_ok-push-2.ensures.items (c.in_ok-push.ensures.items ∙ rw c.new-members.ensures.items refl) c.requires.ordered c.requires.before

pub returns-clause-behind : goal.returns-clause-behind
returns-clause-behind g c = λ any all up. begun_up_to g.K.Ord.cmp g.met.K.Ord.total any c.args.key _ _ _ c.in_ok-push-2.ensures.items all up
