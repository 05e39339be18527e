use Rattle.std.proofs.Common.{rules, ◌≡◌, true, false}
use Rattle.std.specs.Ordering.{eq_by_cmp}
use Rattle.segment_builder.proofs.InOrder.{before_in, went_on_groups, went_on_up_to}
use Rattle.segment_builder.proofs.Keys.{went_on_in}
use Rattle.segment_builder.proofs.grouping.put.Goals as goal

pub begin-requires-clause-before : goal.begin-requires-clause-before
begin-requires-clause-before g c =
    let apart : eq_by_cmp g.K.Ord.cmp c.in-Some.last c.args.key ≡ false = search rules in
    before_in g.K.Ord.cmp g.met.K.Ord.total c.in-Some.last c.args.key _ _ c.in-Some.members c.in_ok-push-in-Some-3.ensures.items (search rules) (search rules) apart

pub returns-in_ok-push-in-Some-2-clause-gather : goal.returns-in_ok-push-in-Some-2-clause-gather
returns-in_ok-push-in-Some-2-clause-gather g c = λ any.
    let same : eq_by_cmp g.K.Ord.cmp c.in-Some.last c.args.key ≡ true = search rules in
    went_on_in g.K.Ord.cmp g.met.K.Ord.total any c.in-Some.last c.args.key c.args.member _ _ _ c.in-Some.members _ (search rules) c.in_ok-push-in-Some.ensures.items c.in_ok-push-in-Some-2.ensures.items same

pub returns-in_ok-push-in-Some-2-clause-ordered : goal.returns-in_ok-push-in-Some-2-clause-ordered
returns-in_ok-push-in-Some-2-clause-ordered g c =
    went_on_groups g.K.Ord.cmp g.met.K.Ord.total c.in-Some.last c.args.member _ _ _ c.in-Some.members _ (search rules) c.in_ok-push-in-Some.ensures.items c.in_ok-push-in-Some-2.ensures.items c.requires.ordered

pub returns-in_ok-push-in-Some-2-clause-behind : goal.returns-in_ok-push-in-Some-2-clause-behind
returns-in_ok-push-in-Some-2-clause-behind g c = λ any all up.
    went_on_up_to g.K.Ord.cmp g.met.K.Ord.total any c.in-Some.last _ _ _ c.in-Some.members _ (search rules) c.in_ok-push-in-Some-2.ensures.items all
