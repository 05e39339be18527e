use Rattle.date_fields.proofs.Digits.{Reads}
use Rattle.date_fields.proofs.date_text.number.Given as goal

abbrev pub invariant-loop-digit : goal.invariant-loop-digit
invariant-loop-digit l = Reads l.digits l.number l.digit-index
