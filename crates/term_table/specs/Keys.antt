-- How a number stands among the terms.
use Rattle.std.specs.Prelude.{ℕ, ℤ, pos, negsuc, List, ◌+◌, ◌-◌, ◌^◌}
use Rattle.std.specs.Int.{to_be_bytes, w64}

-- a number plus 2^63
abbrev pub shifted : ℤ → ℕ
shifted (pos n) = n + 2 ^ 63
shifted (negsuc n) = 2 ^ 63 - (n + 1)

-- a number's key: 8 bytes, the highest first, of the number plus 2^63, so that keys are ordered as numbers are
unfoldable pub number_key : ℤ → List ℕ
number_key number = to_be_bytes w64 (shifted number)
