-- Keys that are sorted as the numbers that their bytes are.
use Rattle.std.proofs.Common.{◌≡◌, ℕ, ℤ, pos, negsuc, ◌^◌, ◌<◌, false, List, [], ◌∷◌, map, w64, FitsSigned, sym, ap, ◌∙◌, arith}
use Rattle.std.specs.Cmp.Lexicographic.{slice_cmp}
use Rattle.std.specs.Int.{from_be_bytes}
use Rattle.std.specs.List.{AllByRecursion}
use Rattle.std.specs.List.Sorted.{IsSortedByKey}
use Rattle.std.specs.Ordering.{int_cmp, is_gt, nat_cmp}
use Rattle.std.proofs.lemmas.Bool.Decides.{nat_tests}
use Rattle.std.proofs.lemmas.Cmp.{nat_cmp_total}
use Rattle.std.proofs.lemmas.List.Sorted.{ranks_by}
use Rattle.std.proofs.lemmas.Nat.{from_be_bytes-to_be_bytes_8}
use Rattle.term_table.specs.Keys.{number_key, shifted}
use Rattle.segment_builder.specs.Groups.{AreRising}
use Rattle.segment_builder.specs.Terms.{key_entry, IsKey}
use Rattle.segment_builder.proofs.Orders.{nat_order}
use Rattle.segment_builder.proofs.Ranked.{risen_by}

-- an entry by the number that its key's bytes are
abbrev pub numbered : List ℕ × ℕ → ℕ × ℕ
numbered entry = (from_be_bytes w64 entry.0, entry.1)

shifted_below : (number : ℤ) → FitsSigned w64 number → shifted number < 2 ^ 64
shifted_below (pos n) fits = omega arith
shifted_below (negsuc n) fits = omega arith

shifted_in_order : (a b : ℤ) → FitsSigned w64 a → FitsSigned w64 b → nat_cmp (shifted a) (shifted b) ≡ int_cmp a b
shifted_in_order (pos m) (pos n) fits others = grind (arith, nat_tests)
shifted_in_order (pos m) (negsuc n) fits others = grind (arith, nat_tests)
shifted_in_order (negsuc m) (pos n) fits others = grind (arith, nat_tests)
shifted_in_order (negsuc m) (negsuc n) fits others = grind (arith, nat_tests)

number_back : (number : ℤ) → FitsSigned w64 number → from_be_bytes w64 (number_key number) ≡ shifted number
unfolding number_key
number_back number fits = from_be_bytes-to_be_bytes_8 (shifted number) (shifted_below number fits)

module _ (ordered : (one other : ℤ) → FitsSigned w64 one → FitsSigned w64 other → slice_cmp nat_cmp (number_key one) (number_key other) ≡ int_cmp one other) where
  keyed : (one other : List ℕ) → IsKey one → IsKey other → nat_cmp (from_be_bytes w64 one) (from_be_bytes w64 other) ≡ slice_cmp nat_cmp one other
  keyed one other first later =
      rw (sym first.2, sym later.2, number_back first.0 first.1, number_back later.0 later.1)
      (shifted_in_order first.0 later.0 first.1 later.1 ∙ sym (ordered first.0 later.0 first.1 later.1))

  later_keyed : (entry : List ℕ × ℕ) (entries : List (List ℕ × ℕ)) → IsKey entry.0 → AllByRecursion (λ (own : List ℕ × ℕ). IsKey own.0) entries → AllByRecursion (λ (later : ℕ × ℕ). is_gt (nat_cmp (from_be_bytes w64 entry.0) later.0) ≡ false) (map numbered entries) → AllByRecursion (λ (later : List ℕ × (ℕ × List ℕ)). is_gt (slice_cmp nat_cmp entry.0 later.0) ≡ false) (map key_entry entries)
  later_keyed entry [] own keys up = tt
  later_keyed entry (later ∷ entries) own keys up =
      (ap is_gt (sym (keyed entry.0 later.0 own keys.0)) ∙ up.0, later_keyed entry entries own keys.1 up.1)

  -- keys of numbers rise as these do
  rising_keyed : (entries : List (List ℕ × ℕ)) → AllByRecursion (λ (own : List ℕ × ℕ). IsKey own.0) entries → AreRising nat_cmp (map numbered entries) → AreRising (slice_cmp nat_cmp) (map key_entry entries)
  rising_keyed [] keys up = tt
  rising_keyed (entry ∷ entries) keys up = (later_keyed entry entries keys.0 keys.1 up.0, rising_keyed entries keys.1 up.1)

  pub risen : (entries : List (List ℕ × ℕ)) → AllByRecursion (λ (own : List ℕ × ℕ). IsKey own.0) entries → IsSortedByKey (λ (entry : List ℕ × ℕ). from_be_bytes w64 entry.0) nat_cmp entries → AreRising (slice_cmp nat_cmp) (map key_entry entries)
  risen entries keys sorted =
      rising_keyed entries keys (risen_by nat_cmp nat_order numbered (λ number. number) (ranks_by nat_cmp_total (λ (entry : List ℕ × ℕ). from_be_bytes w64 entry.0)) entries sorted)
