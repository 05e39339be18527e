use Rattle.std.proofs.Common.{ℕ, Some, ap, ◌∙◌, arith}
use Rattle.part_text.specs.Front.{first_u32}
use Rattle.segment_codec.proofs.Counted.{count_is, long_enough}
use Rattle.segment_codec.proofs.old_scope_count.Goals as goal

pub returns-then-bytes-lt12-clause-scopes : goal.returns-then-bytes-lt12-clause-scopes
returns-then-bytes-lt12-clause-scopes c = λ columns old. absurd (omega (arith, c.if-bytes-lt12.true, long_enough columns c.args.bytes.now old))

pub returns-clause-scopes : goal.returns-clause-scopes
returns-clause-scopes c = λ columns old.
    ap (λ (n : ℕ). Some n) (c.first_u32.ensures ∙ ap first_u32 c.split_at.ensures.back ∙ count_is columns c.args.bytes.now old)
