use Rattle.std.proofs.Common.{refl, ◌<◌, ◌^◌, ℕ}
use Rattle.part_text.specs.Text.{u32_text}
use Rattle.segment_parts.specs.Once.{reading_more, reading_fails, once_u32}
use Rattle.segment_parts.proofs.taken.numbers_at.Goals as goal

pub returns-in_default-number_at-clause-nowhere : goal.returns-in_default-number_at-clause-nowhere
returns-in_default-number_at-clause-nowhere c = λ _.
    reading_fails u32_text (λ (number : ℕ). number < 2 ^ 32) c.args.bytes.now c.in-Some.count c.in-Some.first.now c.numbers.numbers.items c.numbers.rest.now c.numbers.counter once_u32 c.in-Some.ensures.taken c.numbers.invariant c.numbers-test.true (c.in_default-number_at.ensures.nowhere refl)

pub numbers-preserved : goal.numbers-preserved
numbers-preserved c =
    rw c.in_ok-push.ensures.items
    (reading_more u32_text (λ (number : ℕ). number < 2 ^ 32) c.in-Some.first.now c.numbers.numbers.items c.numbers.rest.now c.numbers.counter c.in-Some-number_at.number c.in-Some-number_at.after.now c.numbers.invariant c.in-Some-number_at.ensures.taken)
