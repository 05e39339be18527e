-- The order of a mapping has each nested path once.
use Rattle.std.proofs.Common.{◌≡◌, ℕ, zero, suc, ◌+◌, ◌-◌, ◌<◌, ◌≤◌, ◌==◌, Bool, true, cond, List, [], ◌∷◌, length, filter, refl, sym, ap, ◌∙◌, arith}
use Rattle.std.proofs.lemmas.Bool.{eqb-true, eqb-false, eq-eqb, ne_eqb}
use Rattle.std.proofs.lemmas.List.Elements.{All-from_get_or, recursion_from_All}
use Rattle.std.proofs.lemmas.List.FromFn.{length-range_with_len, get_or-range_with_len}
use Rattle.std.proofs.lemmas.List.Recursion.{is_count_by}
use Rattle.std.proofs.lemmas.List.Sorted.{All-permutation, sum_by-IsPermutation}
use Rattle.std.specs.List.{AllByRecursion, flat_map, range_with_len, count_by}
use Rattle.mapping.specs.Mapping.{Mapping, outer, kids}
use Rattle.mapping.specs.IsMapping.{IsMapping}
use Rattle.mapping_body.proofs.Walks.{split}
use Rattle.mapping.proofs.Nearest.{append_nil}

-- ---- what holds of each

pub each_filtered : {A : Type 0} (P : A → Type 0) (t : A → Bool) (xs : List A) → AllByRecursion P xs → AllByRecursion (λ (x : A). P x × (t x ≡ true)) (filter t xs)
each_filtered P t [] all = tt
each_filtered P t (x ∷ xs) all =
    split (t x)
    (λ held. rw held ((all.0, held), each_filtered P t xs all.1))
    (λ failed. rw failed (each_filtered P t xs all.1))

in_range : (m : Mapping) → IsMapping m → AllByRecursion (λ (n : ℕ). (0 < n) × (n < length m.scopes)) m.order
in_range m is =
    recursion_from_All (λ (n : ℕ). (0 < n) × (n < length m.scopes)) m.order
    (All-permutation (λ (n : ℕ). (0 < n) × (n < length m.scopes)) (range_with_len 1 (length m.scopes - 1)) m.order is.numbers
    (All-from_get_or (λ (n : ℕ). (0 < n) × (n < length m.scopes)) (range_with_len 1 (length m.scopes - 1)) 0 (λ i h.
    let long = length-range_with_len 1 (length m.scopes - 1) in
    let less : i < length m.scopes - 1 = omega (arith, long, h) in
    rw (get_or-range_with_len 1 (length m.scopes - 1) i 0 less) (omega arith, omega arith))))

-- the nested paths whose home is a scope
pub record IsKid (m : Mapping) (s n : ℕ) : Type 0 where
  pub positive : 0 < n
  pub in_range : n < length m.scopes
  pub home : outer m n ≡ s

kid_from : (m : Mapping) (s : ℕ) (ns : List ℕ) → AllByRecursion (λ (n : ℕ). ((0 < n) × (n < length m.scopes)) × ((outer m n == s) ≡ true)) ns → AllByRecursion (IsKid m s) ns
kid_from m s [] all = tt
kid_from m s (n ∷ ns) all =
    (record { positive = all.0.0.0; in_range = all.0.0.1; home = eqb-true (outer m n) s all.0.1 }, kid_from m s ns all.1)

pub each_kid : (m : Mapping) (s : ℕ) → IsMapping m → AllByRecursion (IsKid m s) (kids m s)
each_kid m s is = kid_from m s (kids m s) (each_filtered (λ (n : ℕ). (0 < n) × (n < length m.scopes)) (λ n. outer m n == s) m.order (in_range m is))

-- ---- once

unfoldable pub times : ℕ → List ℕ → ℕ
times n [] = 0
times n (k ∷ ks) = cond (k == n) (1 + times n ks) (times n ks)

pub times_counted : (n : ℕ) (ks : List ℕ) → times n ks ≡ count_by (λ k. k == n) ks
unfolding times
times_counted n ks = is_count_by (times n) (λ k. k == n) refl (λ _ _. refl) ks

pub times_before : (n a len : ℕ) → n < a → times n (range_with_len a len) ≡ 0
unfolding times
times_before n a zero h = refl
times_before n a (suc len) h = rw (ne_eqb a n (λ e. omega arith)) (times_before n (a + 1) len (omega arith))

pub times_within : (n a len : ℕ) → a ≤ n → n < a + len → times n (range_with_len a len) ≡ 1
unfolding times
times_within n a zero h k = absurd (omega arith)
times_within n a (suc len) h k =
    split (a == n)
    (λ same. let e : a ≡ n = eqb-true a n same in rw (same, times_before n (a + 1) len (omega arith)) refl)
    (λ other. let not_e : a ≡ n → ⊥ = eqb-false a n other in rw other (times_within n (a + 1) len (omega arith) (omega arith)))

once : (m : Mapping) (n : ℕ) → IsMapping m → 0 < n → n < length m.scopes → times n m.order ≡ 1
once m n is h k =
    times_counted n m.order ∙ sum_by-IsPermutation (λ x. cond (x == n) 1 0) (range_with_len 1 (length m.scopes - 1)) m.order is.numbers
    ∙ sym (times_counted n (range_with_len 1 (length m.scopes - 1))) ∙ times_within n 1 (length m.scopes - 1) (omega arith) (omega arith)

none_of : {A : Type 0} (g : ℕ → List A) (t : ℕ → Bool) (n : ℕ) (ks : List ℕ) → times n ks ≡ 0 → AllByRecursion (λ (k : ℕ). (k ≡ n → ⊥) → g k ≡ []) (filter t ks) → flat_map g (filter t ks) ≡ []
unfolding times
none_of g t n [] zero_is all = refl
none_of {A} g t n (k ∷ ks) zero_is all =
    split (k == n)
    (λ same. let more : 1 + times n ks ≡ 0 = rw same at zero_is in absurd (omega arith))
    (λ other.
    let rest : times n ks ≡ 0 = rw other at zero_is in
    split (t k)
    (λ held.
    let each : AllByRecursion (λ (j : ℕ). (j ≡ n → ⊥) → g j ≡ []) (k ∷ filter t ks) = rw held at all in
    rw (held, each.0 (eqb-false k n other)) (none_of g t n ks rest each.1))
    (λ failed. rw failed (none_of g t n ks rest (rw failed at all))))

-- of the elements that pass a test, where just one gives something
pub one_of : {A : Type 0} (g : ℕ → List A) (t : ℕ → Bool) (n : ℕ) (ks : List ℕ) → times n ks ≡ 1 → t n ≡ true → AllByRecursion (λ (k : ℕ). (k ≡ n → ⊥) → g k ≡ []) (filter t ks) → flat_map g (filter t ks) ≡ g n
unfolding times
one_of g t n [] one passes all = absurd (omega (arith, one))
one_of {A} g t n (k ∷ ks) one passes all =
    split (k == n)
    (λ same.
    let e : k ≡ n = eqb-true k n same in
    let more : 1 + times n ks ≡ 1 = rw same at one in
    let held : t k ≡ true = ap t e ∙ passes in
    let each : AllByRecursion (λ (j : ℕ). (j ≡ n → ⊥) → g j ≡ []) (k ∷ filter t ks) = rw held at all in
    rw (held, none_of g t n ks (omega (arith, more)) each.1) (append_nil (g k) ∙ ap g e))
    (λ other.
    let rest : times n ks ≡ 1 = rw other at one in
    split (t k)
    (λ held.
    let each : AllByRecursion (λ (j : ℕ). (j ≡ n → ⊥) → g j ≡ []) (k ∷ filter t ks) = rw held at all in
    rw (held, each.0 (eqb-false k n other)) (one_of g t n ks rest passes each.1))
    (λ failed. rw failed (one_of g t n ks rest passes (rw failed at all))))

-- of the nested paths whose home is a scope
pub one_kid : {A : Type 0} (m : Mapping) (s n : ℕ) (g : ℕ → List A) → IsMapping m → IsKid m s n → AllByRecursion (λ (k : ℕ). (k ≡ n → ⊥) → g k ≡ []) (kids m s) → flat_map g (kids m s) ≡ g n
one_kid m s n g is kid all = one_of g (λ k. outer m k == s) n m.order (once m n is kid.positive kid.in_range) (eq-eqb (outer m n) s kid.home) all
