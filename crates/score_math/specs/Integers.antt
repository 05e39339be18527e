-- Whole numbers below and above 0, as sort keys and sums of buckets have them.
use Rattle.std.specs.Prelude.{ℕ, ◌/◌, ℤ, pos, negsuc}

-- The quotient rounded towards minus infinity. `negsuc a` is -(a + 1), so that -1 over 2 is -1 and -4 over 2 is -2.
abbrev pub floor_div : ℤ → ℕ → ℤ
floor_div (pos a) n = pos (a / n)
floor_div (negsuc a) n = negsuc (a / n)
