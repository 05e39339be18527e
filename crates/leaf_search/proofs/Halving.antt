-- A search by halves among the positions of a document.
use Rattle.std.proofs.Common.{◌≡◌, ℕ, ◌+◌, ◌-◌, ◌<◌, ◌≤◌, false, List, [], length, get_or, Option, sym, ap, subst, inl, inr, arith, nat_eq}
use Rattle.std.specs.List.{list_any}
use Rattle.std.specs.List.Sorted.{IsStrictlyIncreasing}
use Rattle.std.specs.Option.{option_map_or}
use Rattle.std.proofs.lemmas.Bool.{cases_lt, ne_eqb}
use Rattle.std.proofs.lemmas.List.{get_or_default}
use Rattle.std.proofs.lemmas.List.Folds.{list_any_none}
use Rattle.std.proofs.lemmas.Option.{slice_get-get_or, slice_get_past}
use Rattle.postings.specs.Postings.{AreAscending, ArePostings, Standing, present_positions}
use Rattle.leaf_search.proofs.Going.{rises}

abbrev pub Ascend : List ℕ → Type 0
Ascend ps = (i j : ℕ) → i < j → j < length ps → get_or ps i 0 < get_or ps j 0

pub increasing : (ps : List ℕ) → IsStrictlyIncreasing ps → Ascend ps
increasing ps up i j below inside =
    let less : get_or ps i 0 < get_or ps (i + (j - i - 1) + 1) 0 = rises ps up i (j - i - 1) (omega (arith, below, inside)) in
    let same : i + (j - i - 1) + 1 ≡ j = omega (arith, below) in
    subst (λ (k : ℕ). get_or ps i 0 < get_or ps k 0) same less

ascends : (ps : List ℕ) → AreAscending ps → Ascend ps
ascends ps are = increasing ps are.ascending

pub positions_ascend : (cursor : Standing) → ArePostings cursor.postings → Ascend (present_positions cursor)
positions_ascend cursor are = elim (cases_lt cursor.at (length cursor.postings)) [
  | inl inside ↦
      let d : ℕ × List ℕ = (0, []) in
      let own : present_positions cursor ≡ (get_or cursor.postings cursor.at d).1 =
      ap (λ (o : Option (ℕ × List ℕ)). option_map_or (λ (posting : ℕ × List ℕ). posting.1) o []) (slice_get-get_or cursor.postings cursor.at d inside) in
      subst Ascend (sym own) (ascends (get_or cursor.postings cursor.at d).1 (are.positions_are cursor.at d inside))
  | inr past ↦
      let none : present_positions cursor ≡ [] = ap (λ (o : Option (ℕ × List ℕ)). option_map_or (λ (posting : ℕ × List ℕ). posting.1) o []) (slice_get_past cursor.postings cursor.at past) in
      subst Ascend (sym none) (λ i j below inside. absurd (omega (arith, inside)))
]

-- the position can stand only from one place up to another
pub record IsCut (ps : List ℕ) (position first end : ℕ) : Type 0 where
  pub ordered : first ≤ end
  pub within : end ≤ length ps
  pub below : (k : ℕ) → k < first → get_or ps k 0 < position
  pub above : (k : ℕ) → end ≤ k → k < length ps → position < get_or ps k 0

pub cut_start : (ps : List ℕ) (position end : ℕ) → end ≡ length ps → IsCut ps position 0 end
cut_start ps position end all = record {
  ordered = omega arith;
  within = omega (arith, all);
  below = λ k low. absurd (omega (arith, low));
  above = λ k from inside. absurd (omega (arith, from, inside, all));
}

pub cut_up : (ps : List ℕ) (position first end middle own : ℕ) → Ascend ps → IsCut ps position first end → middle < end → own ≡ get_or ps middle 0 → own < position → IsCut ps position (middle + 1) end
cut_up ps position first end middle own up it inside is low = record {
  ordered = omega (arith, inside);
  within = it.within;
  below = λ k before. elim (cases_lt k middle) [
    | inl less ↦ omega (arith, up k middle less (omega (arith, inside, it.within)), is, low)
    | inr more ↦
        let here : k ≡ middle = omega (arith, before, more) in
        omega (arith, ap (λ n. get_or ps n 0) here, is, low)
  ];
  above = it.above;
}

pub cut_down : (ps : List ℕ) (position first end middle own : ℕ) → Ascend ps → IsCut ps position first end → first ≤ middle → middle < end → own ≡ get_or ps middle 0 → position < own → IsCut ps position first middle
cut_down ps position first end middle own up it low inside is high = record {
  ordered = low;
  within = omega (arith, inside, it.within);
  below = it.below;
  above = λ k from within. elim (cases_lt middle k) [
    | inl more ↦ omega (arith, up middle k more within, is, high)
    | inr less ↦
        let here : k ≡ middle = omega (arith, from, less) in
        omega (arith, ap (λ n. get_or ps n 0) here, is, high)
  ];
}

pub cut_none : (ps : List ℕ) (position first end : ℕ) → IsCut ps position first end → end ≤ first → false ≡ list_any (λ (p : ℕ). nat_eq p position) ps
cut_none ps position first end it past =
    sym
    (list_any_none (λ (p : ℕ). nat_eq p position) ps
    (λ k d inside.
    ne_eqb (get_or ps k d) position
    (λ same. elim (cases_lt k first) [
      | inl less ↦ omega (arith, same, get_or_default ps k d 0 inside, it.below k less)
      | inr more ↦ omega (arith, same, get_or_default ps k d 0 inside, it.above k (omega (arith, more, past)) inside)
    ])))
