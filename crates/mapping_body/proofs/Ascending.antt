-- Names that ascend, by their places.
use Rattle.std.proofs.Common.{◌≡◌, ℕ, zero, suc, ◌<◌, ◌≤◌, inl, inr, List, [], ◌∷◌, map, filter, length, get_or, sym, ◌∙◌, subst, arith, Bool, true, false, Less, Equal, Greater}
use Rattle.std.proofs.lemmas.Bool.{cases_order}
use Rattle.std.proofs.lemmas.Cmp.{nat_list_cmp_total, tied_itself}
use Rattle.std.specs.List.Sorted.{IsStrictlySortedBy}
use Rattle.mapping_body.specs.Names.{AreAscending}
use Rattle.mapping_body.proofs.Ranks.{compared, AllAfter, reversed}
use Rattle.mapping_body.proofs.Walks.{split}

after_at : (k : List ℕ) (names : List (List ℕ)) (i : ℕ) → AllAfter k names → i < length names → compared k (get_or names i []) ≡ Less
after_at k [] i all h = absurd (omega arith)
after_at k (x ∷ names) zero all h = all.0
after_at k (x ∷ names) (suc i) all h = let more : i < length names = omega arith in after_at k names i all.1 more

pub less_by_place : (names : List (List ℕ)) (i j : ℕ) → AreAscending names → i < j → j < length names → compared (get_or names i []) (get_or names j []) ≡ Less
unfolding IsStrictlySortedBy
less_by_place [] i j up h k = absurd (omega arith)
less_by_place (x ∷ names) i zero up h k = absurd (omega arith)
less_by_place (x ∷ names) zero (suc j) up h k = let more : j < length names = omega arith in after_at x names j up.0 more
less_by_place (x ∷ names) (suc i) (suc j) up h k =
    let less : i < j = omega arith in
    let more : j < length names = omega arith in
    less_by_place names i j up.1 less more

pub not_itself : (name : List ℕ) → compared name name ≡ Less → ⊥
not_itself name h = let e : Equal ≡ Less = sym (tied_itself nat_list_cmp_total name) ∙ h in cc

pub not_back : (one two : List ℕ) → compared one two ≡ Less → compared two one ≡ Less → ⊥
not_back one two h k = let e : Greater ≡ Less = sym (reversed one two Less h) ∙ k in cc

pub place_by_less : (names : List (List ℕ)) (i j : ℕ) → AreAscending names → i < length names → compared (get_or names i []) (get_or names j []) ≡ Less → j < length names → i < j
place_by_less names i j up h less k = elim (cases_order i j) [
  | inl same ↦ absurd (not_itself (get_or names j []) (subst (λ (n : ℕ). compared (get_or names n []) (get_or names j []) ≡ Less) same less))
  | inr rest ↦ elim rest [
    | inl before ↦ before
    | inr behind ↦ absurd (not_back (get_or names i []) (get_or names j []) less (less_by_place names j i up behind h))
  ]
]

pub place_by_same : (names : List (List ℕ)) (i j : ℕ) → AreAscending names → i < length names → j < length names → get_or names i [] ≡ get_or names j [] → i ≡ j
place_by_same names i j up h k same = elim (cases_order i j) [
  | inl equal ↦ equal
  | inr rest ↦ elim rest [
    | inl before ↦ absurd (not_itself (get_or names j []) (subst (λ (n : List ℕ). compared n (get_or names j []) ≡ Less) same (less_by_place names i j up before k)))
    | inr behind ↦ absurd (not_itself (get_or names j []) (subst (λ (n : List ℕ). compared (get_or names j []) n ≡ Less) same (less_by_place names j i up behind h)))
  ]
]

-- ---- those that pass a test ascend too

after_filter : {T : Type 0} (name : T → List ℕ) (t : T → Bool) (k : List ℕ) (xs : List T) → AllAfter k (map name xs) → AllAfter k (map name (filter t xs))
after_filter name t k [] all = tt
after_filter name t k (x ∷ xs) all =
    split (t x)
    (λ held. rw held (all.0, after_filter name t k xs all.1))
    (λ failed. rw failed (after_filter name t k xs all.1))

pub ascend_filter : {T : Type 0} (name : T → List ℕ) (t : T → Bool) (xs : List T) → AreAscending (map name xs) → AreAscending (map name (filter t xs))
unfolding IsStrictlySortedBy
ascend_filter name t [] up = up
ascend_filter name t (x ∷ xs) up =
    split (t x)
    (λ held. rw held (after_filter name t (name x) xs up.0, ascend_filter name t xs up.1))
    (λ failed. rw failed (ascend_filter name t xs up.1))
