-- The way from a scope down to one below it.
use Rattle.std.proofs.Common.{◌≡◌, ℕ, zero, suc, ◌<◌, ◌≤◌, ◌⊎◌, inl, inr, ◌==◌, true, false, List, [], ◌∷◌, ◌++◌, refl, sym, ap, ◌∙◌, subst, arith, append_assoc}
use Rattle.std.proofs.lemmas.Bool.{false≢true, eqb-true, eq-eqb, ne_eqb, or_cases}
use Rattle.std.specs.List.{AllByRecursion}
use Rattle.mapping.specs.Mapping.{Mapping, outer, is_above, IsAbove}
use Rattle.mapping.specs.IsMapping.{IsMapping}
use Rattle.tree_objects.specs.Object.{climb, way}
use Rattle.mapping_body.proofs.Walks.{split}
use Rattle.mapping.proofs.Above.{above_root, above_in_range, above_lt, above_step, chain, is_above_through, outer_above}
use Rattle.mapping.proofs.Numbering.{IsKid}

-- a scope is another or lies above it
abbrev pub IsUpTo : Mapping → ℕ → ℕ → Type 0
IsUpTo m s p = (s ≡ p) ⊎ IsAbove m s p

-- a scope above another is positive's home or lies above that
pub up_to_outer : (m : Mapping) (s p : ℕ) → IsMapping m → IsAbove m s p → IsUpTo m s (outer m p)
up_to_outer m s p is above =
    let less = above_lt m s p is above in
    elim (or_cases (outer m p == s) (is_above m s (outer m p)) (sym (above_step m s p is (omega (arith, less)) (above_in_range m s p above)) ∙ above)) [
      | inl same ↦ inl (sym (eqb-true (outer m p) s same))
      | inr further ↦ inr further
    ]

pub not_itself : (m : Mapping) (s p : ℕ) → IsMapping m → IsAbove m s p → (p == s) ≡ false
not_itself m s p is above = let less = above_lt m s p is above in ne_eqb p s (λ e. omega (arith, less, e))

pub up_to_above : (m : Mapping) (r s p : ℕ) → IsUpTo m r s → IsAbove m s p → IsAbove m r p
up_to_above m r s p (inl same) above = subst (λ (n : ℕ). IsAbove m n p) (sym same) above
up_to_above m r s p (inr over) above = is_above_through m r s p over above

-- ---- how a way is climbed

climb_onto : (m : Mapping) (left s p : ℕ) (found : List ℕ) → climb m left s p found ≡ climb m left s p [] ++ found
climb_onto m zero s p found = refl
climb_onto m (suc left) s p found =
    split (p == s)
    (λ same. rw same refl)
    (λ other. rw other (climb_onto m left s (outer m p) (p ∷ found) ∙ sym (append_assoc (climb m left s (outer m p) []) (p ∷ []) found) ∙ ap (λ (ns : List ℕ). ns ++ found) (sym (climb_onto m left s (outer m p) (p ∷ [])))))

climb_done : (m : Mapping) (left s : ℕ) → climb m left s s [] ≡ []
climb_done m zero s = refl
climb_done m (suc left) s = rw (eq-eqb s s refl) refl

root_alone : (m : Mapping) (s p : ℕ) → IsMapping m → p ≡ 0 → IsAbove m s p → ⊥
root_alone m s p is e above = false≢true (sym (above_root m s is) ∙ subst (λ (n : ℕ). is_above m s n ≡ true) e above)

-- steps beyond those that the way takes change nothing
climb_enough : (m : Mapping) (left more s p : ℕ) → IsMapping m → p ≤ left → p ≤ more → IsUpTo m s p → climb m left s p [] ≡ climb m more s p []
climb_enough m left more s p is h k (inl same) = rw (sym same, climb_done m left s) (sym (climb_done m more s))
climb_enough m zero more s p is h k (inr above) = absurd (root_alone m s p is (omega arith) above)
climb_enough m (suc left) zero s p is h k (inr above) = absurd (root_alone m s p is (omega arith) above)
climb_enough m (suc left) (suc more) s p is h k (inr above) =
    let less = above_lt m s p is above in
    let fall = is.behind p (omega (arith, less)) in
    rw (not_itself m s p is above)
    (climb_onto m left s (outer m p) (p ∷ [])
    ∙ ap (λ (ns : List ℕ). ns ++ p ∷ []) (climb_enough m left more s (outer m p) is (omega (arith, fall, h)) (omega (arith, fall, k)) (up_to_outer m s p is above))
    ∙ sym (climb_onto m more s (outer m p) (p ∷ [])))

pub way_none : (m : Mapping) (s : ℕ) → way m s s ≡ []
unfolding way
way_none m s = climb_done m s s

-- the last step of a way
pub way_last : (m : Mapping) (s p : ℕ) → IsMapping m → IsAbove m s p → way m s p ≡ way m s (outer m p) ++ p ∷ []
unfolding way
way_last m s zero is above = absurd (root_alone m s 0 is refl above)
way_last m s (suc p) is above =
    let fall = is.behind (suc p) (omega arith) in
    rw (not_itself m s (suc p) is above)
    (climb_onto m p s (outer m (suc p)) (suc p ∷ [])
    ∙ ap (λ (ns : List ℕ). ns ++ suc p ∷ []) (climb_enough m p (outer m (suc p)) s (outer m (suc p)) is (omega (arith, fall)) (omega arith) (up_to_outer m s (suc p) is above)))

-- ---- the first step of a way

-- a nested path on the way from s to p whose home is s
pub record IsToward (m : Mapping) (s p n : ℕ) : Type 0 where
  pub kid : IsKid m s n
  pub up_to : IsUpTo m n p
  pub way : way m s p ≡ n ∷ way m n p

-- there is one
toward_within : (m : Mapping) (left s p : ℕ) → IsMapping m → p ≤ left → IsAbove m s p → (n : ℕ) × IsToward m s p n
toward_within m zero s p is h above = absurd (root_alone m s p is (omega arith) above)
toward_within m (suc left) s p is h above =
    let less = above_lt m s p is above in
    let inside = above_in_range m s p above in
    let positive : 0 < p = omega (arith, less) in
    let fall = is.behind p positive in
    elim (up_to_outer m s p is above) [
      | inl same ↦ (
        p,
        record {
          kid = record { positive = positive; in_range = inside; home = sym same };
          up_to = inl refl;
          way = way_last m s p is above ∙ ap (λ (n : ℕ). way m s n ++ p ∷ []) (sym same) ∙ rw (way_none m s, way_none m p) refl;
        },
      )
      | inr further ↦
          let next = toward_within m left s (outer m p) is (omega (arith, fall, h)) further in
          let over : IsAbove m next.0 p = up_to_above m next.0 (outer m p) p next.1.up_to (outer_above m p is positive inside) in (
            next.0,
            record {
              kid = next.1.kid;
              up_to = inr over;
              way = way_last m s p is above ∙ ap (λ (ns : List ℕ). ns ++ p ∷ []) next.1.way ∙ ap (λ (ns : List ℕ). next.0 ∷ ns) (sym (way_last m next.0 p is over));
            },
          )
    ]

pub toward : (m : Mapping) (s p : ℕ) → IsMapping m → IsAbove m s p → (n : ℕ) × IsToward m s p n
toward m s p is above = toward_within m p s p is (omega arith) above

-- of two different nested paths with the same home neither lies above the other
pub kids_apart : (m : Mapping) (s n k : ℕ) → IsMapping m → IsKid m s n → IsKid m s k → IsAbove m n k → ⊥
kids_apart m s n k is one two above =
    let fall = is.behind n one.positive in
    let home = one.home in
    elim (up_to_outer m n k is above) [
      | inl same ↦ let e = two.home in omega (arith, fall, home, same, e)
      | inr further ↦ let less = above_lt m n (outer m k) is further in let e = two.home in omega (arith, fall, home, less, e)
    ]

-- only one of them leads to a scope
pub toward_alone : (m : Mapping) (s p n k : ℕ) → IsMapping m → IsKid m s n → IsKid m s k → IsUpTo m n p → IsUpTo m k p → k ≡ n
toward_alone m s p n k is one two (inl e) (inl f) = f ∙ sym e
toward_alone m s p n k is one two (inl e) (inr over) = absurd (kids_apart m s k n is two one (subst (λ (q : ℕ). IsAbove m k q) (sym e) over))
toward_alone m s p n k is one two (inr above) (inl f) = absurd (kids_apart m s n k is one two (subst (λ (q : ℕ). IsAbove m n q) (sym f) above))
toward_alone m s p n k is one two (inr above) (inr over) = elim (chain m k n p is over above) [
  | inl same ↦ same
  | inr one_is ↦ elim one_is [
    | inl under ↦ absurd (kids_apart m s k n is two one under)
    | inr reverse ↦ absurd (kids_apart m s n k is one two reverse)
  ]
]

-- ---- a way in two parts

two_parts_within : (m : Mapping) (left r s p : ℕ) → IsMapping m → p ≤ left → IsUpTo m r s → IsAbove m s p → way m r p ≡ way m r s ++ way m s p
two_parts_within m zero r s p is h up above = absurd (root_alone m s p is (omega arith) above)
two_parts_within m (suc left) r s p is h up above =
    let less = above_lt m s p is above in
    let fall = is.behind p (omega (arith, less)) in
    let over : IsAbove m r p = up_to_above m r s p up above in
    elim (up_to_outer m s p is above) [
      | inl same ↦
          let short : way m s p ≡ p ∷ [] = way_last m s p is above ∙ ap (λ (n : ℕ). way m s n ++ p ∷ []) (sym same) ∙ rw (way_none m s) refl in
          way_last m r p is over ∙ ap (λ (n : ℕ). way m r n ++ p ∷ []) (sym same) ∙ ap (λ (ns : List ℕ). way m r s ++ ns) (sym short)
      | inr further ↦
          way_last m r p is over
          ∙ ap (λ (ns : List ℕ). ns ++ p ∷ []) (two_parts_within m left r s (outer m p) is (omega (arith, fall, h)) up further)
          ∙ append_assoc (way m r s) (way m s (outer m p)) (p ∷ [])
          ∙ ap (λ (ns : List ℕ). way m r s ++ ns) (sym (way_last m s p is above))
    ]

pub two_parts : (m : Mapping) (r s p : ℕ) → IsMapping m → IsUpTo m r s → IsAbove m s p → way m r p ≡ way m r s ++ way m s p
two_parts m r s p is up above = two_parts_within m p r s p is (omega arith) up above

-- ---- a way leads downwards

all_with : (P : ℕ → Type 0) (ns : List ℕ) (n : ℕ) → AllByRecursion P ns → P n → AllByRecursion P (ns ++ n ∷ [])
all_with P [] n all last = (last, tt)
all_with P (k ∷ ns) n all last = (all.0, all_with P ns n all.1 last)

downwards_within : (m : Mapping) (left s p : ℕ) → IsMapping m → p ≤ left → IsUpTo m s p → AllByRecursion (λ (n : ℕ). s < n) (way m s p)
downwards_within m left s p is h (inl same) = rw (sym same, way_none m s) tt
downwards_within m zero s p is h (inr above) = absurd (root_alone m s p is (omega arith) above)
downwards_within m (suc left) s p is h (inr above) =
    let less = above_lt m s p is above in
    let fall = is.behind p (omega (arith, less)) in
    rw (way_last m s p is above) (all_with (λ (n : ℕ). s < n) (way m s (outer m p)) p (downwards_within m left s (outer m p) is (omega (arith, fall, h)) (up_to_outer m s p is above)) less)

pub downwards : (m : Mapping) (s p : ℕ) → IsMapping m → IsUpTo m s p → AllByRecursion (λ (n : ℕ). s < n) (way m s p)
downwards m s p is up = downwards_within m p s p is (omega arith) up
