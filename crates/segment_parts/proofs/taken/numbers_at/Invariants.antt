use Rattle.std.proofs.Common.{◌<◌, ◌^◌}
use Rattle.part_text.specs.Text.{u32_text}
use Rattle.segment_parts.specs.Once.{IsReading}
use Rattle.segment_parts.proofs.taken.numbers_at.Given as goal

abbrev pub invariant-numbers : goal.invariant-numbers
invariant-numbers l = IsReading u32_text (λ number. number < 2 ^ 32) l.initial.rest l.numbers.items l.rest l.counter
