-- The number that digits write, read from the left.
use Rattle.std.proofs.Common.{◌≡◌, ℕ, ◌^◌, ◌<◌, List, drop}
use Rattle.std.specs.Str.Parse.{digits_value, digits_value_after, AllDigits}

-- the first `i` of the digits have been read, and they write `number`
pub record Reads (digits : List ℕ) (number i : ℕ) : Type 0 where
  pub value : digits_value_after 10 number (drop i digits) ≡ digits_value 10 digits
  pub rest : AllDigits 10 (drop i digits)
  pub small : number < 10 ^ i
