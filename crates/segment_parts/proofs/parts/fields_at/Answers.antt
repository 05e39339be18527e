use Rattle.std.proofs.Common.{refl, drop}
use Rattle.segment_parts.specs.Tails.{fields_taken, no_ordinals, no_numbers, no_present, more_left}
use Rattle.segment_parts.specs.Passes.{empty_is, some_is}
use Rattle.segment_parts.proofs.parts.fields_at.Goals as goal

pub returns-in_default-clause-nowhere : goal.returns-in_default-clause-nowhere
returns-in_default-clause-nowhere c = λ _.
    let never = rw c.in_default.is at c.in_ok-ordinals.ensures.nowhere in
    no_ordinals (drop c.args.at c.args.bytes.now) c.args.documents (never refl)

pub returns-in_default-2-clause-nowhere : goal.returns-in_default-2-clause-nowhere
returns-in_default-2-clause-nowhere c = λ _.
    let first = rw c.in-Some.is at c.in_ok-ordinals.ensures.taken in
    let never = rw c.in_default-2.is at c.in_ok-numbers.ensures.nowhere in
    no_numbers c.args.bytes.now c.args.at c.in-Some.middle c.args.documents c.in-Some.ordinals first (never refl)

pub returns-in_default-3-clause-nowhere : goal.returns-in_default-3-clause-nowhere
returns-in_default-3-clause-nowhere c = λ _.
    let first = rw c.in-Some.is at c.in_ok-ordinals.ensures.taken in
    let second = rw c.in-Some-2.is at c.in_ok-numbers.ensures.taken in
    let never = rw (c.in_default-3.is, c.split_at.ensures.back) at c.in_ok-present.ensures.nowhere in
    no_present c.args.bytes.now c.args.at c.in-Some.middle c.in-Some-2.behind c.args.documents c.in-Some.ordinals c.in-Some-2.numbers first second (never refl)

pub returns-then-is_empty-clause-taken : goal.returns-then-is_empty-clause-taken
returns-then-is_empty-clause-taken c =
    let first = rw c.in-Some.is at c.in_ok-ordinals.ensures.taken in
    let second = rw c.in-Some-2.is at c.in_ok-numbers.ensures.taken in
    let third = rw (c.in-Some-3.is, c.split_at.ensures.back) at c.in_ok-present.ensures.taken in
    fields_taken c.args.bytes.now c.args.at c.in-Some.middle c.in-Some-2.behind c.args.documents c.in-Some.ordinals c.in-Some-2.numbers c.in-Some-3.present c.in-Some-3.rest.now first second third (empty_is c.in-Some-3.rest.now c.is_empty.result c.is_empty.ensures c.if-is_empty.true)

pub returns-else-is_empty-clause-nowhere : goal.returns-else-is_empty-clause-nowhere
returns-else-is_empty-clause-nowhere c = λ _.
    let first = rw c.in-Some.is at c.in_ok-ordinals.ensures.taken in
    let second = rw c.in-Some-2.is at c.in_ok-numbers.ensures.taken in
    let third = rw (c.in-Some-3.is, c.split_at.ensures.back) at c.in_ok-present.ensures.taken in
    more_left c.args.bytes.now c.args.at c.in-Some.middle c.in-Some-2.behind c.args.documents c.in-Some.ordinals c.in-Some-2.numbers c.in-Some-3.present c.in-Some-3.rest.now c.ranges.documents.fits first second third (some_is c.in-Some-3.rest.now c.is_empty.result c.is_empty.ensures c.if-is_empty.false)
