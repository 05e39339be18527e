use Rattle.std.proofs.Common.{refl, ◌≡◌, ◌+◌, ◌/◌, arith}
use Rattle.segment_parts.specs.Heads.{scope_short, scope_other}
use Rattle.segment_parts.proofs.head.scope_at.Goals as goal

pub returns-in_default-clause-nowhere : goal.returns-in_default-clause-nowhere
returns-in_default-clause-nowhere c = λ _.
    let few = rw c.in_default.is at c.in_ok-words.ensures.few in
    let count : c.div_ceil.result ≡ (c.args.documents + 63) / 64 = omega (arith, c.div_ceil.ensures) in
    scope_short c.args.documents c.args.bytes.now (omega (arith, few refl, count))

pub returns-in-None-clause-nowhere : goal.returns-in-None-clause-nowhere
returns-in-None-clause-nowhere c = λ _.
    let taken = rw c.in-Some.is at c.in_ok-words.ensures.taken in
    let long = rw c.in-Some.is at c.in_ok-words.ensures.long in
    let count : c.div_ceil.result ≡ (c.args.documents + 63) / 64 = omega (arith, c.div_ceil.ensures) in
    scope_other c.args.documents c.args.bytes.now c.in-Some.words.items c.in-Some.rest.now (omega (arith, long, count)) (rw c.in-Some.is at c.in_ok-words.ensures.fit) taken c.in-None.ensures.none
