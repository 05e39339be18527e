-- The search for a value by halves, among values that ascend.
use Rattle.std.proofs.Common.{◌≡◌, ◌↔◌, ℕ, ◌+◌, ◌<◌, ◌≤◌, true, false, IsTrue, List, [], ◌∷◌, length, get_or, Some, slice_get, Contains, refl, ap, subst, ◌∙◌, inl, inr, arith}
use Rattle.std.specs.List.Sorted.{IsSorted}
use Rattle.std.specs.Cmp.{IsTotalOrder}
use Rattle.std.specs.Ordering.{ordering_index}
use Rattle.std.specs.declared.cmp.Ordering.{Ordering}
use Rattle.std.specs.declared.cmp.Ordering.TheVariants.{Less, Greater}
use Rattle.std.proofs.lemmas.Bool.{cases_lt, false≢true}
use Rattle.std.proofs.lemmas.Cmp.{tied_itself}
use Rattle.std.proofs.lemmas.List.Sorted.{searchable_from_sorted}
use Rattle.std.proofs.lemmas.Option.{slice_get_within, get_or_from_slice_get, slice_get-get_or}
use Rattle.doc_values.specs.Values.{values_of}
use Rattle.segment.proofs.Flats.{split}
use Rattle.std.specs.Prelude.{◌==◌}
use Rattle.std.proofs.lemmas.List.Elements.{All-head, All-tail}

-- each index that has the value lies from `low` on and before `high`
pub record AreHalved {X : Type 0} (xs : List X) (x : X) (low high : ℕ) : Type 0 where
  pub within : high ≤ length xs
  pub places : (at : ℕ) → slice_get xs at ≡ Some x → (low ≤ at) × (at < high)

pub halved_none : {X : Type 0} (xs : List X) (x : X) → AreHalved xs x 0 (length xs)
halved_none xs x = record { within = omega arith; places = λ at is. (omega arith, slice_get_within xs at x is) }

-- how two places compare with a value
compared : {X : Type 0} {R : X → X → Ordering} (total : IsTotalOrder R) (xs : List X) (x own : X) (at later : ℕ) → IsSorted R xs → at ≤ later → slice_get xs later ≡ Some own → ordering_index (R (get_or xs at x) x) ≤ ordering_index (R own x)
compared {X} {R} total xs x own at later ascend upto is =
    let rises = searchable_from_sorted total (λ y. y) xs x ascend at later x upto (slice_get_within xs later own is) in
    subst (λ (y : X). ordering_index (R (get_or xs at x) x) ≤ ordering_index (R y x)) (get_or_from_slice_get xs later own x is) rises

itself : {X : Type 0} {R : X → X → Ordering} (total : IsTotalOrder R) (xs : List X) (x : X) (at : ℕ) → slice_get xs at ≡ Some x → ordering_index (R (get_or xs at x) x) ≡ 1
itself {X} {R} total xs x at is = ap (λ (y : X). ordering_index (R y x)) (get_or_from_slice_get xs at x x is) ∙ ap ordering_index (tied_itself total x)

-- the value at `middle` is less
pub halved_above : {X : Type 0} {R : X → X → Ordering} (total : IsTotalOrder R) (xs : List X) (x own : X) (low middle high : ℕ) → IsSorted R xs → AreHalved xs x low high → slice_get xs middle ≡ Some own → R own x ≡ Less → AreHalved xs x (middle + 1) high
halved_above {X} {R} total xs x own low middle high ascend was is less = record {
  within = was.within;
  places = λ at there. (
    elim (cases_lt middle at) [
      | inl later ↦ omega arith
      | inr upto ↦ absurd (omega (arith, compared total xs x own at middle ascend upto is, itself total xs x at there, ap ordering_index less))
    ],
    (was.places at there).1,
  );
}

-- it is greater
pub halved_below : {X : Type 0} {R : X → X → Ordering} (total : IsTotalOrder R) (xs : List X) (x own : X) (low middle high : ℕ) → IsSorted R xs → AreHalved xs x low high → slice_get xs middle ≡ Some own → R own x ≡ Greater → AreHalved xs x low middle
halved_below {X} {R} total xs x own low middle high ascend was is greater =
    let inside : middle < length xs = slice_get_within xs middle own is in
    record {
      within = omega (arith, inside);
      places = λ at there. (
        (was.places at there).0,
        elim (cases_lt at middle) [
          | inl earlier ↦ earlier
          | inr from ↦
              let rises = compared total xs x x middle at ascend from there in
              let own_is : R (get_or xs middle x) x ≡ Greater = ap (λ (y : X). R y x) (get_or_from_slice_get xs middle own x is) ∙ greater in
              absurd (omega (arith, rises, ap ordering_index own_is, ap ordering_index (tied_itself total x)))
        ],
      );
    }

pub halved_found : {X : Type 0} (xs : List X) (x own : X) (middle : ℕ) → slice_get xs middle ≡ Some own → own ≡ x → IsTrue true ↔ Contains xs x
halved_found {X} xs x own middle is same = (λ _. (middle, slice_get_within xs middle own is, get_or_from_slice_get xs middle own x is ∙ same), λ _. refl)

pub halved_all : {X : Type 0} (xs : List X) (x : X) (low high : ℕ) → AreHalved xs x low high → high ≤ low → IsTrue false ↔ Contains xs x
halved_all xs x low high was past = (
  λ no. absurd (false≢true no),
  λ there.
      let between = was.places there.0 (slice_get-get_or xs there.0 x there.1 ∙ ap Some there.2) in
      absurd (omega (arith, between.0, between.1, past)),
)

-- the values of a document ascend
pub values_ascend : {X : Type 0} (R : X → X → Ordering) (rows : List (ℕ × List X)) (doc : ℕ) → ((at : ℕ) (d : ℕ × List X) → at < length rows → IsSorted R (get_or rows at d).1) → IsSorted R (values_of doc rows)
values_ascend R [] doc each = λ k d from below. absurd (omega (arith, below))
values_ascend {X} R (row ∷ rows) doc each =
    let Sorted : ℕ × List X → Type 0 = λ r. IsSorted R r.1 in
    let here = All-head Sorted row rows each in
    let rest = values_ascend R rows doc (All-tail Sorted row rows each) in
    elim (split (row.0 == doc)) [
      | inl holds ↦ rw holds here
      | inr fails ↦ rw fails rest
    ]
