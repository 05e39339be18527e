use Rattle.std.proofs.Common.{refl}
use Rattle.segment_parts.specs.Marks.{presence_no_numbers, presence_no_set}
use Rattle.segment_parts.proofs.presence.presence_at.Goals as goal

pub returns-in_default-2-clause-nowhere : goal.returns-in_default-2-clause-nowhere
returns-in_default-2-clause-nowhere c = λ _.
    let never = rw c.in_default-2.is at c.in_ok-numbers.ensures.nowhere in
    presence_no_numbers c.args.documents c.args.bytes.now c.in-Some.field c.in-Some.behind.now c.ranges.documents.fits c.in-Some.ensures.taken (never refl)

pub returns-in_default-3-clause-nowhere : goal.returns-in_default-3-clause-nowhere
returns-in_default-3-clause-nowhere c = λ _.
    let taken = rw c.in-Some-2.is at c.in_ok-numbers.ensures.taken in
    let never = rw (c.in_default-3.is, c.as_slice.ensures.value) at c.in_ok-set.ensures.none in
    presence_no_set c.args.documents c.args.bytes.now c.in-Some.field c.in-Some.behind.now c.in-Some-2.numbers.items c.in-Some-2.rest.now c.ranges.documents.fits c.in-Some.ensures.taken taken (never refl)
