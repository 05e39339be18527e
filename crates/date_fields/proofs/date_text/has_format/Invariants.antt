use Rattle.std.proofs.Common.{◌≡◌, drop}
use Rattle.date_fields.specs.Moment.{has_format}
use Rattle.date_fields.proofs.date_text.has_format.Given as goal

abbrev pub invariant-loop-place : goal.invariant-loop-place
invariant-loop-place l = has_format (drop l.place l.format) (drop l.place l.text) ≡ has_format l.format l.text
