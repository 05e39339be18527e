use Rattle.std.proofs.Common.{rules, refl}
use Rattle.segment_builder.proofs.InOrder.{behind_on, rising_on, behind_here, behind_none, none_ordered}
use Rattle.segment_builder.proofs.Keys.{gathers_on}
use Rattle.segment_builder.proofs.grouping.gathered.Goals as goal

pub entries-init : goal.entries-init
entries-init g c = (
  tt,
  tt,
  (λ any. search rules),
  search rules,
  none_ordered g.K.Ord.cmp g.met.K.Ord.total _ (rw c.new-groups.ensures.items refl),
  behind_none g.K.Ord.cmp g.met.K.Ord.total _ _ (rw c.new-groups.ensures.items refl),
)

pub entries-preserved : goal.entries-preserved
entries-preserved g c = (
  tt,
  tt,
  (λ any. gathers_on g.K.Ord.cmp g.met.K.Ord.total any _ _ _ _ _ _ c.in-Some.ensures.steps.0 (c.in_ok-put.ensures.gather any) (c.entries.invariant.2 any)),
  rising_on g.K.Ord.cmp g.met.K.Ord.total _ _ _ c.in-Some.ensures.steps.0 c.entries.invariant.3,
  c.in_ok-put.ensures.ordered,
  behind_on g.K.Ord.cmp g.met.K.Ord.total _ _ _ _ _ c.in-Some.ensures.steps.0 c.in_ok-put.ensures.behind c.entries.invariant.3 c.entries.invariant.5,
)

pub put-requires-clause-behind : goal.put-requires-clause-behind
put-requires-clause-behind g c = behind_here g.K.Ord.cmp g.met.K.Ord.total _ _ _ _ c.in-Some.ensures.steps.0 c.entries.invariant.5
