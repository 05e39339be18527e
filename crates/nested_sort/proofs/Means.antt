-- Sums and means of numbers of 64 bits.
use Rattle.std.specs.Prelude.{◌≡◌, ℕ, ◌-◌, ◌*◌, ◌^◌, ◌<◌, ◌/◌, ℤ, pos, negsuc, ◌+ℤ◌, ◌-ℤ◌, ◌≤ℤ◌, FitsSigned}
use Rattle.std.specs.Int.{w64, w128}
use Rattle.std.proofs.Common.{arith, ap, ◌∙◌, to_z, of_z}
use Rattle.std.proofs.lemmas.Int.{ints}
use Rattle.std.proofs.lemmas.Nat.{div_below}
use Rattle.score_math.specs.Integers.{floor_div}

-- a mean of numbers of 64 bits is one
pub floor_low : (sum : ℤ) (count : ℕ) → 0 < count → (pos 0 -ℤ pos (2 ^ 63 * count)) ≤ℤ sum → negsuc (2 ^ 63 - 1) ≤ℤ floor_div sum count
floor_low (pos a) count some low = omega (arith, ints)
floor_low (negsuc a) count some low =
    let below : a < 2 ^ 63 * count = omega (arith, ints) in
    let quotient : a / count < 2 ^ 63 = div_below a count (2 ^ 63) some below in
    omega (arith, ints)

pub floor_high : (sum : ℤ) (count : ℕ) → 0 < count → sum ≤ℤ pos ((2 ^ 63 - 1) * count) → floor_div sum count ≤ℤ pos (2 ^ 63 - 1)
floor_high (negsuc a) count some high = omega (arith, ints)
floor_high (pos a) count some high =
    let below : a < 2 ^ 63 * count = omega (arith, ints) in
    let quotient : a / count < 2 ^ 63 = div_below a count (2 ^ 63) some below in
    omega (arith, ints)

pub middle_fits : (low high sum found : ℤ) → FitsSigned w64 low → FitsSigned w64 high → found ≡ floor_div sum 2 → sum ≡ low +ℤ high → to_z w64 (of_z w64 (to_z w128 (of_z w128 found))) ≡ floor_div (low +ℤ high) 2
middle_fits low high sum found one other is same =
    let own : found ≡ floor_div (low +ℤ high) 2 = is ∙ ap (λ s. floor_div s 2) same in
    let least : negsuc (2 ^ 63 - 1) ≤ℤ floor_div (low +ℤ high) 2 = floor_low (low +ℤ high) 2 (omega arith) (omega (arith, ints)) in
    let most : floor_div (low +ℤ high) 2 ≤ℤ pos (2 ^ 63 - 1) = floor_high (low +ℤ high) 2 (omega arith) (omega (arith, ints)) in
    omega (arith, ints)

pub ruleset means = (floor_low, floor_high)
