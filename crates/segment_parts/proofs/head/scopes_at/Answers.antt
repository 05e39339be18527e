use Rattle.std.proofs.Common.{refl}
use Rattle.segment_parts.specs.Text.{scope_text}
use Rattle.segment_parts.specs.Heads.{HasLength, scopes_no_more}
use Rattle.segment_parts.specs.Once.{reading_more}
use Rattle.segment_parts.proofs.head.scopes_at.Goals as goal

pub returns-in_default-clause-nowhere : goal.returns-in_default-clause-nowhere
returns-in_default-clause-nowhere c = λ _.
    let never = rw c.in_default.is at c.in_ok-set.ensures.nowhere in
    scopes_no_more c.args.documents c.args.count c.args.bytes.now c.scopes.sets.items c.scopes.rest.now c.scopes.counter (c.scopes_stand_once.ensures c.args.documents) c.scopes.invariant c.scopes-test.true (never refl)

pub scopes-preserved : goal.scopes-preserved
scopes-preserved c =
    let taken = rw c.in-Some.is at c.in_ok-set.ensures.taken in
    rw c.in_ok-push.ensures.items (reading_more scope_text (HasLength c.args.documents) c.args.bytes.now c.scopes.sets.items c.scopes.rest.now c.scopes.counter c.in-Some.set c.in-Some.after.now c.scopes.invariant taken)
