-- How many digits short numbers have.
use Rattle.std.proofs.Common.{arith, length-append, sym, ◌≡◌, ℕ, ◌+◌, ◌/◌, ◌%◌, ◌<◌, ◌≤◌, ◌^◌, [], ◌∷◌, length, refl}
use Rattle.std.specs.Prelude.{decimal}
use Rattle.std.proofs.lemmas.Fmt.{decimal_digit, decimal_step}

pub one_digit : (n : ℕ) → n < 10 → 1 ≡ length (decimal n)
one_digit n h = rw (decimal_digit n h) refl

-- the number without its last digit has one digit less
one_more : (k n : ℕ) → 10 ≤ n → n < 2 ^ 64 → k ≡ length (decimal (n / 10)) → k + 1 ≡ length (decimal n)
one_more k n h fits e = rw (decimal_step n h fits, length-append (decimal (n / 10)) ((48 + n % 10) ∷ []), sym e) refl

pub two_digits : (n : ℕ) → 10 ≤ n → n < 100 → 2 ≡ length (decimal n)
two_digits n h k = one_more 1 n h (omega arith) (one_digit (n / 10) (omega arith))

pub three_digits : (n : ℕ) → 100 ≤ n → n < 1_000 → 3 ≡ length (decimal n)
three_digits n h k = one_more 2 n (omega arith) (omega arith) (two_digits (n / 10) (omega arith) (omega arith))

pub four_digits : (n : ℕ) → 1_000 ≤ n → n < 10_000 → 4 ≡ length (decimal n)
four_digits n h k = one_more 3 n (omega arith) (omega arith) (three_digits (n / 10) (omega arith) (omega arith))
