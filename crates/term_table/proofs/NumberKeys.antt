-- Keys of numbers: each number has its own, and each 8 bytes are the key of one.
use Rattle.std.proofs.Common.{◌≡◌, ℕ, suc, ℤ, pos, negsuc, ◌+◌, ◌-◌, ◌%◌, ◌/◌, ◌^◌, ◌<◌, List, length, get_or, w64, FitsSigned, to_z, sym, ap, ◌∙◌, inl, inr, arith, refl}
use Rattle.std.specs.Int.{from_be_bytes, to_be_bytes}
use Rattle.std.specs.Ordering.{nat_cmp, int_cmp, ordering_then}
use Rattle.std.specs.Cmp.Lexicographic.{slice_cmp}
use Rattle.std.specs.declared.cmp.Ordering.{Ordering}
use Rattle.std.specs.declared.cmp.Ordering.TheVariants.{Less, Equal, Greater}
use Rattle.std.proofs.lemmas.Bool.Decides.{nat_tests}
use Rattle.std.proofs.lemmas.Bool.{cases_lt}
use Rattle.std.proofs.lemmas.Int.{ints}
use Rattle.std.proofs.lemmas.Nat.{be_bytes_8}
use Rattle.std.proofs.Math.Facts.{to_z-neg}
use Rattle.term_table.specs.Keys.{shifted, number_key}

-- 2^63 more without the carry, and then read as a number with a sign, is the number that was shifted
pub shifted_back : (n : ℕ) → n < 2 ^ 64 → shifted (to_z w64 ((n + 2 ^ 63) % 2 ^ 64)) ≡ n
shifted_back n below = elim (cases_lt n (2 ^ 63)) [
  | inl low ↦
      let under = 2 ^ 63 - (n + 1) in
      let bits : (n + 2 ^ 63) % 2 ^ 64 ≡ 2 ^ 64 - suc under = omega arith in
      ap (λ m. shifted (to_z w64 m)) bits ∙ ap shifted (to_z-neg w64 under (omega arith)) ∙ omega arith
  | inr high ↦ let e : to_z w64 ((n + 2 ^ 63) % 2 ^ 64) ≡ pos (n - 2 ^ 63) = omega (arith, ints) in ap shifted e ∙ omega arith
]

shifted-below : (number : ℤ) → FitsSigned w64 number → shifted number < 2 ^ 64
shifted-below (pos n) fits = omega arith
shifted-below (negsuc n) fits = omega arith

pub length-number_key : (number : ℤ) → length (number_key number) ≡ 8
unfolding number_key
length-number_key number = refl

-- 8 bytes are the key of the number that they give
pub number_key-back : (key : List ℕ) (n : ℕ) → length key ≡ 8 → ((i : ℕ) → get_or key i 0 < 256) → n < 2 ^ 64 → n ≡ from_be_bytes w64 key → number_key (to_z w64 ((n + 2 ^ 63) % 2 ^ 64)) ≡ key
unfolding number_key
number_key-back key n long bytes below is = be_bytes_8 key _ long bytes (shifted_back n below ∙ is)

-- ---- keys in order

-- two numbers are ordered by their higher bytes, and then by their lowest
by_lowest : (x y : ℕ) → nat_cmp x y ≡ ordering_then (nat_cmp (x / 256) (y / 256)) (nat_cmp (x % 256) (y % 256))
by_lowest x y = grind (arith, nat_tests)

then_assoc : (x y z : Ordering) → ordering_then (ordering_then x y) z ≡ ordering_then x (ordering_then y z)
then_assoc Less y z = refl
then_assoc Equal y z = refl
then_assoc Greater y z = refl

then_equal : (x : Ordering) → ordering_then x Equal ≡ x
then_equal Less = refl
then_equal Equal = refl
then_equal Greater = refl

-- one byte further up
next_byte : (a b low high : ℕ) (up : (n : ℕ) → n / low / 256 ≡ n / high) → nat_cmp (a / low) (b / low) ≡ ordering_then (nat_cmp (a / high) (b / high)) (nat_cmp (a / low % 256) (b / low % 256))
next_byte a b low high up =
    by_lowest (a / low) (b / low)
    ∙ ap (λ n. ordering_then (nat_cmp n (b / low / 256)) (nat_cmp (a / low % 256) (b / low % 256))) (up a)
    ∙ ap (λ n. ordering_then (nat_cmp (a / high) n) (nat_cmp (a / low % 256) (b / low % 256))) (up b)

bytes_in_order : (a b : ℕ) → a < 2 ^ 64 → b < 2 ^ 64 → slice_cmp nat_cmp (to_be_bytes w64 a) (to_be_bytes w64 b) ≡ nat_cmp a b
bytes_in_order a b below others =
    let top : nat_cmp (a / 2 ^ 56) (b / 2 ^ 56) ≡ nat_cmp (a / 2 ^ 56 % 256) (b / 2 ^ 56 % 256) =
    ap (λ n. nat_cmp n (b / 2 ^ 56)) (omega arith) ∙ ap (nat_cmp (a / 2 ^ 56 % 256)) (omega arith) in
    let s0 = by_lowest a b in
    let s1 = next_byte a b (2 ^ 8) (2 ^ 16) (λ n. omega arith) in
    let s2 = next_byte a b (2 ^ 16) (2 ^ 24) (λ n. omega arith) in
    let s3 = next_byte a b (2 ^ 24) (2 ^ 32) (λ n. omega arith) in
    let s4 = next_byte a b (2 ^ 32) (2 ^ 40) (λ n. omega arith) in
    let s5 = next_byte a b (2 ^ 40) (2 ^ 48) (λ n. omega arith) in
    let s6 = next_byte a b (2 ^ 48) (2 ^ 56) (λ n. omega arith) in
    sym (s0 ∙ rw (s1, s2, s3, s4, s5, s6, top) (simp (then_assoc, then_equal)))

shifted_in_order : (a b : ℤ) → FitsSigned w64 a → FitsSigned w64 b → nat_cmp (shifted a) (shifted b) ≡ int_cmp a b
shifted_in_order (pos m) (pos n) fits others = grind (arith, nat_tests)
shifted_in_order (pos m) (negsuc n) fits others = grind (arith, nat_tests)
shifted_in_order (negsuc m) (pos n) fits others = grind (arith, nat_tests)
shifted_in_order (negsuc m) (negsuc n) fits others = grind (arith, nat_tests)

-- keys are ordered as their numbers are
pub keys_in_order : (a b : ℤ) → FitsSigned w64 a → FitsSigned w64 b → slice_cmp nat_cmp (number_key a) (number_key b) ≡ int_cmp a b
unfolding number_key
keys_in_order a b fits others =
    bytes_in_order (shifted a) (shifted b) (shifted-below a fits) (shifted-below b others) ∙ shifted_in_order a b fits others
