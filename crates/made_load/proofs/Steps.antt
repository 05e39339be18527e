-- A step of the generator in two halves, each of which wraps.
use Rattle.std.proofs.Common.{◌≡◌, ℕ, ◌+◌, ◌%◌}
use Rattle.std.proofs.Math.Nat.{mod-add-mod}

pub stepped : (product more modulus : ℕ) → (product % modulus + more) % modulus ≡ (product + more) % modulus
stepped product more modulus = mod-add-mod product modulus more
