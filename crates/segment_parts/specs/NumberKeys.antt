-- Keys of numbers: each number has its own, and each 8 bytes are the key of one.
use Rattle.std.proofs.Common.{◌≡◌, ℕ, suc, ℤ, pos, negsuc, ◌+◌, ◌-◌, ◌%◌, ◌^◌, ◌<◌, ◌↔◌, List, length, get_or, map, w64, FitsSigned, to_z, sym, ap, ◌∙◌, inl, inr, arith, refl, Contains}
use Rattle.std.specs.Int.{from_be_bytes}
use Rattle.std.proofs.lemmas.Bool.{cases_lt}
use Rattle.std.proofs.lemmas.Int.{ints}
use Rattle.std.proofs.lemmas.List.{length-map, get_or-map}
use Rattle.std.proofs.lemmas.Nat.{be_bytes_8, from_be_bytes-to_be_bytes_8}
use Rattle.std.proofs.Math.Facts.{to_z-neg}
use Rattle.term_table.specs.Keys.{shifted, number_key}

-- 2^63 more without the carry, and then read as a number with a sign, is the number that was shifted
pub shifted_back : (n : ℕ) → n < 2 ^ 64 → shifted (to_z w64 ((n + 2 ^ 63) % 2 ^ 64)) ≡ n
shifted_back n below = elim (cases_lt n (2 ^ 63)) [
  | inl low ↦
      let under = 2 ^ 63 - (n + 1) in
      let bits : (n + 2 ^ 63) % 2 ^ 64 ≡ 2 ^ 64 - suc under = omega arith in
      ap (λ m. shifted (to_z w64 m)) bits ∙ ap shifted (to_z-neg w64 under (omega arith)) ∙ omega arith
  | inr high ↦ let e : to_z w64 ((n + 2 ^ 63) % 2 ^ 64) ≡ pos (n - 2 ^ 63) = omega (arith, ints) in ap shifted e ∙ omega arith
]

shifted-below : (number : ℤ) → FitsSigned w64 number → shifted number < 2 ^ 64
shifted-below (pos n) fits = omega arith
shifted-below (negsuc n) fits = omega arith

shifted-one : (a b : ℤ) → FitsSigned w64 a → FitsSigned w64 b → shifted a ≡ shifted b → a ≡ b
shifted-one (pos m) (pos n) fits others same = ap pos (omega arith)
shifted-one (pos m) (negsuc n) fits others same = absurd (omega arith)
shifted-one (negsuc m) (pos n) fits others same = absurd (omega arith)
shifted-one (negsuc m) (negsuc n) fits others same = ap negsuc (omega arith)

pub length-number_key : (number : ℤ) → length (number_key number) ≡ 8
unfolding number_key
length-number_key number = refl

-- 8 bytes are the key of the number that they give
pub number_key-back : (key : List ℕ) (n : ℕ) → length key ≡ 8 → ((i : ℕ) → get_or key i 0 < 256) → n < 2 ^ 64 → n ≡ from_be_bytes w64 key → number_key (to_z w64 ((n + 2 ^ 63) % 2 ^ 64)) ≡ key
unfolding number_key
number_key-back key n long bytes below is = be_bytes_8 key _ long bytes (shifted_back n below ∙ is)

-- two numbers with one key are one
pub number_key-one : (a b : ℤ) → FitsSigned w64 a → FitsSigned w64 b → number_key a ≡ number_key b → a ≡ b
unfolding number_key
number_key-one a b fits others same =
    shifted-one a b fits others (sym (from_be_bytes-to_be_bytes_8 (shifted a) (shifted-below a fits)) ∙ ap (from_be_bytes w64) same ∙ from_be_bytes-to_be_bytes_8 (shifted b) (shifted-below b others))

-- a number stands in a list exactly where its key stands among the keys
pub contains-key : (numbers : List ℤ) (number : ℤ) (key : List ℕ) → number_key number ≡ key → FitsSigned w64 number → ((k : ℕ) → k < length numbers → FitsSigned w64 (get_or numbers k number)) → Contains numbers number ↔ Contains (map number_key numbers) key
contains-key numbers number key is fits all = (
  λ there. (there.0, omega (arith, there.1, length-map numbers number_key), get_or-map number_key numbers there.0 number key there.1 ∙ ap number_key there.2 ∙ is),
  λ there.
      let inside : there.0 < length numbers = omega (arith, there.1, length-map numbers number_key) in
      let same : number_key (get_or numbers there.0 number) ≡ number_key number = sym (get_or-map number_key numbers there.0 number key inside) ∙ there.2 ∙ sym is in
      (there.0, inside, number_key-one (get_or numbers there.0 number) number (all there.0 inside) fits same),
)

-- bytes that are not 8 are the key of none
pub contains-no_key : (numbers : List ℤ) (key : List ℕ) → (length key ≡ 8 → ⊥) → Contains (map number_key numbers) key → ⊥
contains-no_key numbers key other there =
    let inside : there.0 < length numbers = omega (arith, there.1, length-map numbers number_key) in
    other (ap length (sym there.2 ∙ get_or-map number_key numbers there.0 (pos 0) key inside) ∙ length-number_key (get_or numbers there.0 (pos 0)))
