use Rattle.std.proofs.Common.{◌≡◌, ◌+◌, ◌-◌, ◌<◌, ◌^◌, min, length, drop, false}
use Rattle.reply_text.specs.Field.{fields_text}
use Rattle.reply_text.proofs.field.fields_len.Given as goal

-- what is counted and what is left make the whole
abbrev pub invariant-fields : goal.invariant-fields
invariant-fields l =
    (l.total < 2 ^ 64)
    × (min (l.total + length (fields_text l.later (drop l.field-index l.fields))) (2 ^ 64 - 1) ≡ min (length (fields_text false l.fields)) (2 ^ 64 - 1))
