use Rattle.std.proofs.Common.{refl}
use Rattle.segment_parts.specs.Heads.{head_taken, head_no_sizes, head_no_scopes}
use Rattle.segment_parts.proofs.head.head_at.Goals as goal

pub returns-in_default-clause-nowhere : goal.returns-in_default-clause-nowhere
returns-in_default-clause-nowhere c = λ _. head_no_sizes c.args.bytes.now (c.in_default.ensures.nowhere refl)

pub returns-in-Some-2-clause-taken : goal.returns-in-Some-2-clause-taken
returns-in-Some-2-clause-taken c =
    let taken = rw c.in-Some-2.is at c.in_ok-scopes.ensures.taken in
    head_taken c.args.bytes.now c.in-Some.documents c.in-Some.count c.in-Some-2.scopes c.in-Some.first.now c.in-Some-2.rest.now c.in-Some.ensures.taken taken

pub returns-in-None-clause-nowhere : goal.returns-in-None-clause-nowhere
returns-in-None-clause-nowhere c = λ _.
    let never = rw c.in-None.is at c.in_ok-scopes.ensures.nowhere in
    head_no_scopes c.args.bytes.now c.in-Some.documents c.in-Some.count c.in-Some.first.now c.in-Some.ensures.taken (never refl)
