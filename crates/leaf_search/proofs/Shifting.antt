-- How far words are moved on to stand on themselves, from one number of words to the next.
use Rattle.std.proofs.Common.{◌≡◌, ◌≢◌, ℕ, zero, suc, ◌+◌, ◌-◌, ◌<◌, ◌≤◌, List, [], ◌∷◌, ◌++◌, length, get_or, sym, ap, subst, ◌∙◌, inl, inr, arith}
use Rattle.std.proofs.lemmas.Bool.{cases_lt}
use Rattle.std.proofs.lemmas.List.{get_or_append_left, get_or_push, length-append}
use Rattle.leaf_search.specs.Patterns.{AreShifts, IsShift, Repeats}

-- moved on by one place more than there are, words meet none of their own
pub shift_bound : (words : List ℕ) (count shift : ℕ) → IsShift words count shift → shift ≤ count + 1
shift_bound words count shift it = elim (cases_lt (count + 1) shift) [
  | inl past ↦ absurd (it.least (count + 1) (omega arith) past (λ i inside. absurd (omega (arith, inside))))
  | inr within ↦ omega (arith, within)
]

-- of one word more: no fewer places serve, and these do for the words before the last
pub record IsMoved (words : List ℕ) (last shift : ℕ) : Type 0 where
  pub some : 0 < shift
  pub within : shift ≤ last + 1
  pub repeats : Repeats words last shift
  pub least : (less : ℕ) → 0 < less → less < shift → Repeats words (last + 1) less → ⊥

pub moved_first : (words shifts : List ℕ) (last shift : ℕ) → AreShifts words shifts → last < length shifts → shift ≡ get_or shifts last 0 → IsMoved words last shift
moved_first words shifts last shift are inside is =
    let it : IsShift words last shift = subst (IsShift words last) (sym is) (are last inside) in
    record {
      some = it.some;
      within = shift_bound words last shift it;
      repeats = it.repeats;
      least = λ less some below all. it.least less some below (λ i within. all i (omega (arith, within)));
    }

pub moved_more : (words shifts : List ℕ) (last shift further : ℕ) → AreShifts words shifts → last < length shifts → IsMoved words last shift → shift ≤ last → get_or words last 0 ≢ get_or words (last - shift) 0 → further ≡ get_or shifts (last - shift) 0
    → IsMoved words last (shift + further)
moved_more words shifts last shift further are inside was low differ is =
    let next : IsShift words (last - shift) further = subst (IsShift words (last - shift)) (sym is) (are (last - shift) (omega (arith, inside))) in
    record {
      some = omega (arith, was.some);
      within = omega (arith, shift_bound words (last - shift) further next, low);
      repeats = λ i within.
          let same : shift + further + i ≡ shift + (further + i) = omega arith in
          ap (λ k. get_or words k 0) same ∙ was.repeats (further + i) (omega (arith, within)) ∙ next.repeats i (omega (arith, within));
      least = λ less some below all. elim (cases_lt less shift) [
        | inl fewer ↦ was.least less some fewer all
        | inr from ↦ elim (cases_lt shift less) [
          | inl more ↦
              next.least (less - shift) (omega (arith, more)) (omega (arith, below, more))
              (λ i within.
              let same : shift + (less - shift + i) ≡ less + i = omega (arith, more) in
              sym (was.repeats (less - shift + i) (omega (arith, within, more))) ∙ ap (λ k. get_or words k 0) same ∙ all i (omega (arith, within, more, low)))
          | inr own ↦
              let equal : less ≡ shift = omega (arith, from, own) in
              let end : less + (last - shift) ≡ last = omega (arith, equal, low) in
              differ (ap (λ k. get_or words k 0) (sym end) ∙ all (last - shift) (omega (arith, equal, low)))
        ]
      ];
    }

pub moved_stands : (words : List ℕ) (last shift : ℕ) → IsMoved words last shift → shift ≤ last → get_or words last 0 ≡ get_or words (last - shift) 0 → IsShift words (last + 1) shift
moved_stands words last shift was low same = record {
  some = was.some;
  repeats = λ i within. elim (cases_lt (shift + i) last) [
    | inl before ↦ was.repeats i before
    | inr from ↦
        let end : shift + i ≡ last = omega (arith, within, from) in
        let start : last - shift ≡ i = omega (arith, end) in
        ap (λ k. get_or words k 0) end ∙ same ∙ ap (λ k. get_or words k 0) start
  ];
  least = was.least;
}

pub moved_past : (words : List ℕ) (last shift : ℕ) → IsMoved words last shift → last < shift → IsShift words (last + 1) shift
moved_past words last shift was past = record {
  some = was.some;
  repeats = λ i within. absurd (omega (arith, within, past));
  least = was.least;
}

pub shifts_first : (words shifts : List ℕ) → shifts ≡ 1 ∷ [] → AreShifts words shifts
shifts_first words shifts is = subst (AreShifts words) (sym is) (one)
  where
    one : AreShifts words (1 ∷ [])
    one zero inside = record { some = omega arith; repeats = λ i within. absurd (omega (arith, within)); least = λ less some below all. absurd (omega (arith, some, below)) }
    one (suc count) inside = absurd (omega (arith, inside))

pub shifts_more : (words shifts new : List ℕ) (shift : ℕ) → AreShifts words shifts → IsShift words (length shifts) shift → new ≡ shifts ++ shift ∷ [] → AreShifts words new
shifts_more words shifts new shift are it is = λ count inside. elim (cases_lt count (length shifts)) [
  | inl before ↦ subst (IsShift words count) (sym (ap (λ l. get_or l count 0) is ∙ get_or_append_left shifts (shift ∷ []) 0 count before)) (are count before)
  | inr from ↦
      let long : length new ≡ length shifts + 1 = ap length is ∙ length-append shifts (shift ∷ []) in
      let end : length shifts ≡ count = omega (arith, inside, from, long) in
      subst (IsShift words count) (sym (ap (λ l. get_or l count 0) is ∙ get_or_push shifts shift 0 count end)) (subst (λ n. IsShift words n shift) end it)
]
