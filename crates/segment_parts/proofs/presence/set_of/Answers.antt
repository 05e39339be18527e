use Rattle.std.proofs.Common.{refl, inl, inr, get_or}
use Rattle.segment_parts.specs.Marks.{marking_none, marking_more, marking_fails}
use Rattle.segment_parts.proofs.presence.set_of.Goals as goal

pub numbers-init : goal.numbers-init
numbers-init c = rw c.in_ok-marks.ensures (marking_none c.args.documents c.args.numbers.now)

pub returns-then-number-next-clause-none : goal.returns-then-number-next-clause-none
returns-then-number-next-clause-none c = λ _. marking_fails c.args.documents c.numbers.marks c.args.numbers.now c.numbers.number-index c.numbers.next (get_or c.args.numbers.now c.numbers.number-index 0) c.numbers.invariant c.numbers-test.true refl (inl c.if-number-next.true)

pub returns-then-number-documents-clause-none : goal.returns-then-number-documents-clause-none
returns-then-number-documents-clause-none c = λ _. marking_fails c.args.documents c.numbers.marks c.args.numbers.now c.numbers.number-index c.numbers.next (get_or c.args.numbers.now c.numbers.number-index 0) c.numbers.invariant c.numbers-test.true refl (inr c.if-number-documents.true)

pub numbers-preserved : goal.numbers-preserved
numbers-preserved c = rw c.set.ensures (marking_more c.args.documents c.numbers.marks c.args.numbers.now c.numbers.number-index c.numbers.next (get_or c.args.numbers.now c.numbers.number-index 0) c.numbers.invariant c.numbers-test.true refl c.if-number-next.false c.if-number-documents.false)
