use Rattle.std.proofs.Common.{◌≡◌, ◌-◌, ◌<◌, ◌^◌, min, drop}
use Rattle.std.specs.Str.Parse.{digits_value_after, digits_value}
use Rattle.tree_objects.proofs.convert.value_written.Given as goal

abbrev pub invariant-digits : goal.invariant-digits
invariant-digits l =
    (l.number < 2 ^ 64)
    × (min (digits_value_after 10 l.number (drop l.digit-index l.digits)) (2 ^ 64 - 1) ≡ min (digits_value 10 l.digits) (2 ^ 64 - 1))
