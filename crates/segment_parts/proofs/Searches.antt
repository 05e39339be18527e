-- The search for a term among terms in order.
use Rattle.std.proofs.Common.{◌≡◌, ℕ, ◌+◌, ◌<◌, ◌≤◌, List, [], ◌∷◌, length, get_or, Some, slice_get, Contains, refl, sym, ◌∙◌, ap, subst, arith, inl, inr}
use Rattle.std.specs.Ordering.{nat_cmp, ordering_reverse}
use Rattle.std.specs.Cmp.Lexicographic.{slice_cmp}
use Rattle.std.specs.declared.cmp.Ordering.TheVariants.{Less, Equal, Greater}
use Rattle.std.proofs.lemmas.Bool.{cases_lt}
use Rattle.std.proofs.lemmas.Bool.Decides.{nat_tests}
use Rattle.std.proofs.lemmas.Cmp.{tied_itself}
use Rattle.std.proofs.lemmas.Map.Keys.{Less-from_sorted}
use Rattle.std.proofs.lemmas.Option.{slice_get_within, slice_get-get_or, get_or_from_slice_get, slice_get_read, same_Some}
use Rattle.term_table.specs.Terms.{term_cmp, AreAscending}
use Rattle.term_table.specs.Laws.{term_cmp_total}

-- bytes that compare as equal are the same
same_bytes : (one other : List ℕ) → slice_cmp nat_cmp one other ≡ Equal → one ≡ other
same_bytes [] [] e = refl
same_bytes [] (y ∷ ys) e = cc
same_bytes (x ∷ xs) [] e = cc
same_bytes (x ∷ xs) (y ∷ ys) e = grind (arith, nat_tests, same_bytes xs ys)

-- and so are terms
same_term : (one other : ℕ × List ℕ) → term_cmp one other ≡ Equal → one ≡ other
same_term one other e = grind (arith, nat_tests, same_bytes one.1 other.1)

less_not_itself : (term : ℕ × List ℕ) → term_cmp term term ≡ Less → ⊥
less_not_itself term less = let no : Less ≡ Equal = sym less ∙ tied_itself term_cmp_total term in cc

-- each place that has the term lies from `low` on and before `high`
pub record Narrowed (terms : List (ℕ × List ℕ)) (term : ℕ × List ℕ) (low high : ℕ) : Type 0 where
  pub within : high ≤ length terms
  pub places : (place : ℕ) → slice_get terms place ≡ Some term → (low ≤ place) × (place < high)

pub narrowed_none : (terms : List (ℕ × List ℕ)) (term : ℕ × List ℕ) → Narrowed terms term 0 (length terms)
narrowed_none terms term = record { within = omega arith; places = λ place at. (omega arith, slice_get_within terms place term at) }

-- of two places the term at the earlier one comes before the other
in_order : (terms : List (ℕ × List ℕ)) (place later : ℕ) (one other : ℕ × List ℕ) → AreAscending terms → slice_get terms place ≡ Some one → slice_get terms later ≡ Some other → place < later → term_cmp one other ≡ Less
in_order terms place later one other ascend at at_later earlier =
    sym (ap (λ first. term_cmp first other) (get_or_from_slice_get terms place one one at))
    ∙ sym (ap (term_cmp (get_or terms place one)) (get_or_from_slice_get terms later other one at_later))
    ∙ Less-from_sorted term_cmp terms place later one ascend earlier (slice_get_within terms later other at_later)

-- the term at `middle` comes before the one that is sought
pub narrowed_above : (terms : List (ℕ × List ℕ)) (term one : ℕ × List ℕ) (low middle high : ℕ) → AreAscending terms → Narrowed terms term low high → middle < high → one ≡ get_or terms middle one → term_cmp one term ≡ Less → Narrowed terms term (middle + 1) high
narrowed_above terms term one low middle high ascend was below is less =
    let at_middle : slice_get terms middle ≡ Some one = slice_get_read terms (length terms) middle one refl (omega (arith, was.within)) is in
    record {
      within = was.within;
      places = λ place at. (
        elim (cases_lt middle place) [
          | inl later ↦ omega arith
          | inr upto ↦ elim (cases_lt place middle) [
            | inl earlier ↦
                let before : term_cmp term one ≡ Less = in_order terms place middle term one ascend at at_middle earlier in
                absurd (less_not_itself term (term_cmp_total.trans term one term before less))
            | inr from ↦
                let same : middle ≡ place = omega arith in
                let is_it : one ≡ term = same_Some one term (sym at_middle ∙ ap (slice_get terms) same ∙ at) in
                absurd (less_not_itself term (subst (λ own. term_cmp own term ≡ Less) is_it less))
          ]
        ],
        (was.places place at).1,
      );
    }

-- it comes after
pub narrowed_below : (terms : List (ℕ × List ℕ)) (term one : ℕ × List ℕ) (low middle high : ℕ) → AreAscending terms → Narrowed terms term low high → middle < high → one ≡ get_or terms middle one → term_cmp one term ≡ Greater → Narrowed terms term low middle
narrowed_below terms term one low middle high ascend was below is greater =
    let at_middle : slice_get terms middle ≡ Some one = slice_get_read terms (length terms) middle one refl (omega (arith, was.within)) is in
    let less : term_cmp term one ≡ Less = term_cmp_total.antisymm term one ∙ ap ordering_reverse greater in
    record {
      within = omega (arith, was.within);
      places = λ place at. (
        (was.places place at).0,
        elim (cases_lt place middle) [
          | inl earlier ↦ earlier
          | inr from ↦ elim (cases_lt middle place) [
            | inl later ↦
                let after : term_cmp one term ≡ Less = in_order terms middle place one term ascend at_middle at later in
                absurd (less_not_itself term (term_cmp_total.trans term one term less after))
            | inr upto ↦
                let same : middle ≡ place = omega arith in
                let is_it : one ≡ term = same_Some one term (sym at_middle ∙ ap (slice_get terms) same ∙ at) in
                absurd (less_not_itself term (subst (λ own. term_cmp term own ≡ Less) is_it less))
          ]
        ],
      );
    }

-- it is the term
pub term_found : (terms : List (ℕ × List ℕ)) (term one : ℕ × List ℕ) (middle : ℕ) → middle < length terms → one ≡ get_or terms middle one → term_cmp one term ≡ Equal → slice_get terms middle ≡ Some term
term_found terms term one middle inside is equal = slice_get_read terms (length terms) middle one refl inside is ∙ ap Some (same_term one term equal)

-- no place is left
pub term_missing : (terms : List (ℕ × List ℕ)) (term : ℕ × List ℕ) (low high : ℕ) → Narrowed terms term low high → high ≤ low → Contains terms term → ⊥
term_missing terms term low high was past there =
    let at : slice_get terms there.0 ≡ Some term = slice_get-get_or terms there.0 term there.1 ∙ ap Some there.2 in
    let between = was.places there.0 at in
    omega (arith, between.0, between.1, past)
