-- Flags as numbers: an addition that carries what came over the documents that are not in a set.
use Rattle.std.proofs.Common.{◌≡◌, ℕ, zero, suc, ◌+◌, ◌-◌, ◌*◌, ◌/◌, ◌%◌, ◌^◌, ◌<◌, ◌≤◌, min, Bool, true, false, cond, not, ◌&&◌, List, [], ◌∷◌, ◌++◌, length, map, replicate, get_or, nat_le, refl, sym, ap, ap₂, ◌∙◌, arith, length-append}
use Rattle.std.specs.Prelude.{bit_and}
use Rattle.std.specs.Int.{bit_at}
use Rattle.std.proofs.lemmas.Bool.{le-leb, lt-leb}
use Rattle.std.proofs.lemmas.List.{length-replicate}
use Rattle.std.proofs.Math.Nat.{pow-suc}
use Rattle.std.proofs.lemmas.Nat.Bits.{bit_at-zero, bit_at_lowest, bit_at-suc, bit_at_and, same_from_bits}
use Rattle.block_bits.specs.Flags.{intersection}
use Rattle.block_bits.specs.Words.{bits_number}
use Rattle.block_join.specs.Kept.{came, since, reached}

-- ---- the bits of a number

lowest : (flag : Bool) (n : ℕ) → (cond flag 1 0 + 2 * n) % 2 ≡ cond flag 1 0
lowest true n = omega arith
lowest false n = omega arith

half : (flag : Bool) (n : ℕ) → (cond flag 1 0 + 2 * n) / 2 ≡ n
half true n = omega arith
half false n = omega arith

bit_flag : (flags : List Bool) (i : ℕ) → bit_at (bits_number flags) i ≡ cond (get_or flags i false) 1 0
bit_flag [] i = bit_at-zero i
bit_flag (flag ∷ flags) zero = bit_at_lowest (bits_number (flag ∷ flags)) ∙ lowest flag (bits_number flags)
bit_flag (flag ∷ flags) (suc i) =
    bit_at-suc (bits_number (flag ∷ flags)) i ∙ ap (λ n. bit_at n i) (half flag (bits_number flags)) ∙ bit_flag flags i

both_flags : (ones others : List Bool) (i : ℕ) → length ones ≡ length others
    → min (cond (get_or ones i false) 1 0) (cond (get_or others i false) 1 0) ≡ cond (get_or (intersection ones others) i false) 1 0
both_flags [] [] i e = refl
both_flags [] (y ∷ others) i e = absurd (omega (arith, e))
both_flags (x ∷ ones) [] i e = absurd (omega (arith, e))
both_flags (true ∷ ones) (true ∷ others) zero e = refl
both_flags (true ∷ ones) (false ∷ others) zero e = refl
both_flags (false ∷ ones) (true ∷ others) zero e = refl
both_flags (false ∷ ones) (false ∷ others) zero e = refl
both_flags (x ∷ ones) (y ∷ others) (suc i) e = both_flags ones others i (omega (arith, e))

pub and_flags : (ones others : List Bool) → length ones ≡ length others → bit_and (bits_number ones) (bits_number others) ≡ bits_number (intersection ones others)
and_flags ones others e =
    same_from_bits (bit_and (bits_number ones) (bits_number others)) (bits_number (intersection ones others))
    (λ i.
    bit_at_and (bits_number ones) (bits_number others) i ∙ ap₂ min (bit_flag ones i) (bit_flag others i)
    ∙ both_flags ones others i e ∙ sym (bit_flag (intersection ones others) i))

pub number_not : (flags : List Bool) → bits_number (map not flags) + bits_number flags + 1 ≡ 2 ^ length flags
number_not [] = refl
number_not (true ∷ flags) = omega (arith, number_not flags, pow-suc 2 (length flags))
number_not (false ∷ flags) = omega (arith, number_not flags, pow-suc 2 (length flags))

number_below : (flags : List Bool) → bits_number flags < 2 ^ length flags
number_below flags = omega (arith, number_not flags)

-- ---- the sum of the others and of what is not in the set

abbrev same : Bool → Bool → Bool
same true x = x
same false x = not x

abbrev sums : Bool → List Bool → List Bool → List Bool
sums some [] others = []
sums some (parent ∷ parents) [] = []
sums some (parent ∷ parents) (other ∷ others) = cond parent some (same other some) ∷ sums (came some parent other) parents others

abbrev spill : Bool → List Bool → List Bool → ℕ
spill some [] others = cond some 1 0
spill some (parent ∷ parents) [] = cond some 1 0
spill some (parent ∷ parents) (other ∷ others) = 2 * spill (came some parent other) parents others

adds : (some : Bool) (parents others : List Bool) → length others ≡ length parents
    → bits_number (map not parents) + bits_number (intersection others (map not parents)) + cond some 1 0 ≡ bits_number (sums some parents others) + spill some parents others
adds true [] [] e = refl
adds false [] [] e = refl
adds some [] (c ∷ others) e = absurd (omega (arith, e))
adds some (p ∷ parents) [] e = absurd (omega (arith, e))
adds true (true ∷ parents) (true ∷ others) e = omega (arith, adds false parents others (omega (arith, e)))
adds true (true ∷ parents) (false ∷ others) e = omega (arith, adds false parents others (omega (arith, e)))
adds true (false ∷ parents) (true ∷ others) e = omega (arith, adds true parents others (omega (arith, e)))
adds true (false ∷ parents) (false ∷ others) e = omega (arith, adds true parents others (omega (arith, e)))
adds false (true ∷ parents) (true ∷ others) e = omega (arith, adds false parents others (omega (arith, e)))
adds false (true ∷ parents) (false ∷ others) e = omega (arith, adds false parents others (omega (arith, e)))
adds false (false ∷ parents) (true ∷ others) e = omega (arith, adds true parents others (omega (arith, e)))
adds false (false ∷ parents) (false ∷ others) e = omega (arith, adds false parents others (omega (arith, e)))

twice : (some : Bool) (n : ℕ) → 2 * cond some (2 ^ n) 0 ≡ cond some (2 ^ suc n) 0
twice true n = omega (arith, pow-suc 2 n)
twice false n = refl

spills : (some : Bool) (parents others : List Bool) → length others ≡ length parents → spill some parents others ≡ cond (since some parents others) (2 ^ length parents) 0
spills some [] others e = refl
spills some (p ∷ parents) [] e = absurd (omega (arith, e))
spills some (p ∷ parents) (c ∷ others) e =
    ap (λ n. 2 * n) (spills (came some p c) parents others (omega (arith, e))) ∙ twice (since (came some p c) parents others) (length parents)

sums_long : (some : Bool) (parents others : List Bool) → length others ≡ length parents → length (sums some parents others) ≡ length parents
sums_long some [] others e = refl
sums_long some (p ∷ parents) [] e = absurd (omega (arith, e))
sums_long some (p ∷ parents) (c ∷ others) e = ap suc (sums_long (came some p c) parents others (omega (arith, e)))

-- in the set there is what came
sums_in : (some : Bool) (parents others : List Bool) → length others ≡ length parents → intersection (sums some parents others) parents ≡ reached some parents others
sums_in some [] others e = refl
sums_in some (p ∷ parents) [] e = absurd (omega (arith, e))
sums_in true (true ∷ parents) (c ∷ others) e = ap (λ bs. true ∷ bs) (sums_in false parents others (omega (arith, e)))
sums_in false (true ∷ parents) (c ∷ others) e = ap (λ bs. false ∷ bs) (sums_in false parents others (omega (arith, e)))
sums_in true (false ∷ parents) (true ∷ others) e = ap (λ bs. false ∷ bs) (sums_in true parents others (omega (arith, e)))
sums_in true (false ∷ parents) (false ∷ others) e = ap (λ bs. false ∷ bs) (sums_in true parents others (omega (arith, e)))
sums_in false (false ∷ parents) (true ∷ others) e = ap (λ bs. false ∷ bs) (sums_in true parents others (omega (arith, e)))
sums_in false (false ∷ parents) (false ∷ others) e = ap (λ bs. false ∷ bs) (sums_in false parents others (omega (arith, e)))

-- ---- 64 documents

length_not : (flags : List Bool) → length (map not flags) ≡ length flags
length_not [] = refl
length_not (flag ∷ flags) = ap suc (length_not flags)

-- what the code adds
abbrev pub total : ℕ → ℕ → Bool → ℕ
total parents others some = (2 ^ 64 - 1 - parents) + bit_and others (2 ^ 64 - 1 - parents) + cond some 1 0

module _ (some : Bool) (parents others : List Bool) (e : length others ≡ length parents) (full : length parents ≡ 64) where
  free_is : 2 ^ 64 - 1 - bits_number parents ≡ bits_number (map not parents)
  free_is = omega (arith, number_not parents, ap (λ n. 2 ^ n) full)

  total_is : total (bits_number parents) (bits_number others) some ≡ bits_number (sums some parents others) + cond (since some parents others) (2 ^ 64) 0
  total_is =
      ap (λ n. n + bit_and (bits_number others) n + cond some 1 0) free_is
      ∙ ap (λ n. bits_number (map not parents) + n + cond some 1 0) (and_flags others (map not parents) (e ∙ sym (length_not parents)))
      ∙ adds some parents others e
      ∙ ap (λ n. bits_number (sums some parents others) + n) (spills some parents others e ∙ ap (λ n. cond (since some parents others) (2 ^ n) 0) full)

  sums_below : bits_number (sums some parents others) < 2 ^ 64
  sums_below = omega (arith, number_below (sums some parents others), ap (λ n. 2 ^ n) (sums_long some parents others e ∙ full))

  rest : (came_some : Bool) (n : ℕ) → n < 2 ^ 64 → (n + cond came_some (2 ^ 64) 0) % 2 ^ 64 ≡ n
  rest true n h = omega (arith, h)
  rest false n h = omega (arith, h)

  full_word : bit_and (total (bits_number parents) (bits_number others) some % 2 ^ 64) (bits_number parents) ≡ bits_number (reached some parents others)
  full_word =
      ap (λ n. bit_and n (bits_number parents)) (ap (λ n. n % 2 ^ 64) total_is ∙ rest (since some parents others) (bits_number (sums some parents others)) sums_below)
      ∙ and_flags (sums some parents others) parents (sums_long some parents others e)
      ∙ ap bits_number (sums_in some parents others e)

-- fewer documents are 64 with none behind them
number_none : (m : ℕ) → bits_number (replicate m false) ≡ 0
number_none zero = refl
number_none (suc m) = omega (arith, number_none m)

number_more : (flags : List Bool) (m : ℕ) → bits_number (flags ++ replicate m false) ≡ bits_number flags
number_more [] m = number_none m
number_more (flag ∷ flags) m = ap (λ n. cond flag 1 0 + 2 * n) (number_more flags m)

reached_none : (some : Bool) (m : ℕ) → reached some (replicate m false) (replicate m false) ≡ replicate m false
reached_none some zero = refl
reached_none some (suc m) = ap (λ bs. false ∷ bs) (reached_none some m)

reached_more : (some : Bool) (parents others : List Bool) (m : ℕ) → length others ≡ length parents
    → reached some (parents ++ replicate m false) (others ++ replicate m false) ≡ reached some parents others ++ replicate m false
reached_more some [] [] m e = reached_none some m
reached_more some [] (c ∷ others) m e = absurd (omega (arith, e))
reached_more some (p ∷ parents) [] m e = absurd (omega (arith, e))
reached_more some (p ∷ parents) (c ∷ others) m e = ap (λ bs. (p && some) ∷ bs) (reached_more (came some p c) parents others m (omega (arith, e)))

long_more : (flags : List Bool) (m : ℕ) → length (flags ++ replicate m false) ≡ length flags + m
long_more flags m = length-append flags (replicate m false) ∙ ap (λ n. length flags + n) (length-replicate m false)

pub word_is : (some : Bool) (parents others : List Bool) → length others ≡ length parents → length parents ≤ 64
    → bit_and (total (bits_number parents) (bits_number others) some % 2 ^ 64) (bits_number parents) ≡ bits_number (reached some parents others)
word_is some parents others e h =
    let m : ℕ = 64 - length parents in
    let ps = parents ++ replicate m false in
    let cs = others ++ replicate m false in
    let long : length ps ≡ 64 = omega (arith, long_more parents m, h) in
    let both : length cs ≡ length ps = omega (arith, long_more parents m, long_more others m, e) in
    ap₂ (λ a b. bit_and (total a b some % 2 ^ 64) a) (sym (number_more parents m)) (sym (number_more others m))
    ∙ full_word some ps cs both long
    ∙ ap bits_number (reached_more some parents others m e)
    ∙ number_more (reached some parents others) m

past : (some : Bool) (n : ℕ) → n < 2 ^ 64 → nat_le (2 ^ 64) (n + cond some (2 ^ 64) 0) ≡ some
past true n h = le-leb (2 ^ 64) (n + 2 ^ 64) (omega arith)
past false n h = lt-leb (2 ^ 64) (n + 0) (omega (arith, h))

pub more_is : (some : Bool) (parents others : List Bool) → length others ≡ length parents → length parents ≡ 64
    → nat_le (2 ^ 64) (total (bits_number parents) (bits_number others) some) ≡ since some parents others
more_is some parents others e full =
    ap (nat_le (2 ^ 64)) (total_is some parents others e full)
    ∙ past (since some parents others) (bits_number (sums some parents others)) (sums_below some parents others e full)
