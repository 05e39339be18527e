use Rattle.std.proofs.Common.{refl}
use Rattle.segment_builder.proofs.Scoped.{one_more_set}
use Rattle.segment_builder.proofs.scopes.empty_sets.Goals as goal

pub scopes-preserved : goal.scopes-preserved
scopes-preserved c = one_more_set c.args.scopes.now c.scopes._scope _ _ _ _ c.scopes.invariant refl c.in_ok-empty.ensures c.in_ok-push.ensures.items
