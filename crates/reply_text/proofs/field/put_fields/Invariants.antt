use Rattle.std.proofs.Common.{◌≡◌, ◌+◌, ◌≤◌, ◌++◌, length, drop, false}
use Rattle.reply_text.specs.Field.{fields_text}
use Rattle.reply_text.proofs.field.put_fields.Given as goal

-- what is written and what is left make the whole, and there is room for what is left
abbrev pub invariant-fields : goal.invariant-fields
invariant-fields l =
    (l.into.bytes ++ fields_text l.later (drop l.field-index l.fields) ≡ l.fn.into.bytes ++ fields_text false l.fields)
    × (l.fn.into.spare + length (fields_text l.later (drop l.field-index l.fields)) ≤ l.into.spare + length (fields_text false l.fields))
