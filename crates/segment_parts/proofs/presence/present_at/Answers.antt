use Rattle.std.proofs.Common.{refl, sym, ◌∙◌, arith}
use Rattle.std.proofs.lemmas.Bool.{false≢true}
use Rattle.segment_parts.specs.Text.{presence_text}
use Rattle.segment_parts.specs.Parts.{IsPresence}
use Rattle.segment_parts.specs.Presents.{present_no_number, present_fails, present_falls, present_taken}
use Rattle.segment_parts.specs.Once.{reading_more}
use Rattle.segment_parts.proofs.presence.present_at.Goals as goal

pub returns-in_default-clause-nowhere : goal.returns-in_default-clause-nowhere
returns-in_default-clause-nowhere c = λ _. present_no_number c.args.documents c.args.bytes.now (c.in_default.ensures.nowhere refl)

pub returns-in_default-2-clause-nowhere : goal.returns-in_default-2-clause-nowhere
returns-in_default-2-clause-nowhere c = λ _.
    let never = rw c.in_default-2.is at c.in_ok-field.ensures.nowhere in
    present_fails c.args.documents c.args.bytes.now c.in-Some.count c.in-Some.first.now c.columns.columns.items c.columns.rest.now c.columns.counter c.ranges.documents.fits c.in-Some.ensures.taken c.columns.invariant c.columns-test.true (never refl)

pub columns-preserved : goal.columns-preserved
columns-preserved c =
    let taken = rw c.in-Some-2.is at c.in_ok-field.ensures.taken in
    rw c.in_ok-push.ensures.items (reading_more presence_text (IsPresence c.args.documents) c.in-Some.first.now c.columns.columns.items c.columns.rest.now c.columns.counter (c.in-Some-2.field, c.in-Some-2.set) c.in-Some-2.after.now c.columns.invariant taken)

pub returns-then-not-are_ascending-clause-nowhere : goal.returns-then-not-are_ascending-clause-nowhere
returns-then-not-are_ascending-clause-nowhere c = λ _.
    let ascends = rw c.as_slice.ensures.value at c.are_ascending.ensures in
    present_falls c.args.documents c.args.bytes.now c.in-Some.count c.in-Some.first.now c.columns.columns.items c.columns.rest.now c.columns.counter c.ranges.documents.fits c.in-Some.ensures.taken c.columns.invariant (omega (arith, c.columns.auto.counter-end)) c.columns-test.false
    (λ own. false≢true (sym c.if-not-are_ascending.true ∙ ascends.1 own))

pub returns-clause-taken : goal.returns-clause-taken
returns-clause-taken c =
    let ascends = rw c.as_slice.ensures.value at c.are_ascending.ensures in
    rw c.of.ensures (present_taken c.args.documents c.args.bytes.now c.in-Some.count c.in-Some.first.now c.columns.columns.items c.columns.rest.now c.columns.counter c.in-Some.ensures.taken c.columns.invariant (omega (arith, c.columns.auto.counter-end)) c.columns-test.false
    (ascends.0 c.if-not-are_ascending.false))
