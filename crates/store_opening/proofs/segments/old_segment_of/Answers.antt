use Rattle.std.proofs.Common.{arith}
use Rattle.store_opening.proofs.Forms.{old_text_of, no_count, other_count}
use Rattle.store_opening.proofs.segments.old_segment_of.Goals as goal

pub returns-in_err-decoded_old-in-Some-clause-damaged : goal.returns-in_err-decoded_old-in-Some-clause-damaged
returns-in_err-decoded_old-in-Some-clause-damaged c = λ refused columns it.
    c.in_err-decoded_old-in-Some.ensures.damaged (grind (arith, refused, c.from_residual.ensures)) columns it.encoding

pub returns-in_ok-decoded_old-in-Some-clause-segment : goal.returns-in_ok-decoded_old-in-Some-clause-segment
returns-in_ok-decoded_old-in-Some-clause-segment c =
    old_text_of c.args.scope_count c.in-Some.count c.in_ok-decoded_old-in-Some.field-0 c.args.bytes.items c.as_slice.result.now c.old_scope_count.result
    c.as_slice.ensures.value c.old_scope_count.ensures.scopes c.in-Some.is (grind (arith, c.if-count-scope_count.true))
    c.in_ok-decoded_old-in-Some.ensures.segment

pub returns-else-count-scope_count-clause-damaged : goal.returns-else-count-scope_count-clause-damaged
returns-else-count-scope_count-clause-damaged c = λ refused columns it.
    other_count c.args.scope_count c.in-Some.count columns c.args.bytes.items c.as_slice.result.now c.old_scope_count.result c.as_slice.ensures.value
    c.old_scope_count.ensures.scopes c.in-Some.is (λ same. grind (arith, c.if-count-scope_count.false, same)) it

pub returns-in-None-clause-damaged : goal.returns-in-None-clause-damaged
returns-in-None-clause-damaged c = λ refused columns it.
    no_count c.args.scope_count columns c.args.bytes.items c.as_slice.result.now c.old_scope_count.result c.as_slice.ensures.value
    c.old_scope_count.ensures.scopes c.in-None.is it
