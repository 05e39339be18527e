-- Positions that are taken by one word after the other.
use Rattle.std.proofs.Common.{◌≡◌, ℕ, ◌+◌, ◌<◌, ◌≤◌, Bool, true, false, List, [], length, get_or, set, sym, ap, subst, ◌∙◌, inl, inr, arith, nat_eq}
use Rattle.std.specs.List.{list_any}
use Rattle.std.proofs.lemmas.Bool.{cases_Bool, cases_eq, cases_lt, false≢true}
use Rattle.std.proofs.lemmas.List.{get_or-set_other, get_or-set_same}
use Rattle.leaf_search.specs.Patterns.{AreApart, stands}
use Rattle.leaf_search.proofs.Running.{index_of_position}

-- the first of some positions are taken, and weren't before
pub record AreTaking (ps : List ℕ) (at : ℕ) (old now : List Bool) : Type 0 where
  pub kept : (position : ℕ) → get_or old position false ≡ true → get_or now position false ≡ true
  pub free : (k : ℕ) → k < at → k < length ps → get_or old (get_or ps k 0) false ≡ false
  pub taken : (k : ℕ) → k < at → k < length ps → get_or now (get_or ps k 0) false ≡ true

pub taking_none : (ps : List ℕ) (old : List Bool) → AreTaking ps 0 old old
taking_none ps old = record {
  kept = λ position is. is;
  free = λ k before. absurd (omega (arith, before));
  taken = λ k before. absurd (omega (arith, before));
}

pub taking_more : (ps : List ℕ) (at position : ℕ) (old now new : List Bool) → AreTaking ps at old now → position ≡ get_or ps at 0 → position < length now → get_or now position false ≡ false → new ≡ set now position true → AreTaking ps (at + 1) old new
taking_more ps at position old now new was is inside unset made =
    let own : get_or new position false ≡ true = ap (λ l. get_or l position false) made ∙ get_or-set_same now position true false inside in
    let keeps : (p : ℕ) → get_or now p false ≡ true → get_or new p false ≡ true =
    λ p yes. elim (cases_eq p position) [
      | inl same ↦ ap (λ k. get_or new k false) same ∙ own
      | inr other ↦ ap (λ l. get_or l p false) made ∙ get_or-set_other now position p true false other ∙ yes
    ] in
    record {
      kept = λ p yes. keeps p (was.kept p yes);
      free = λ k before within. elim (cases_lt k at) [
        | inl less ↦ was.free k less within
        | inr more ↦
            let end : k ≡ at = omega (arith, before, more) in
            let here : get_or ps k 0 ≡ position = ap (λ i. get_or ps i 0) end ∙ sym is in
            elim (cases_Bool (get_or old position false)) [
              | inl had ↦ absurd (false≢true (sym unset ∙ was.kept position had))
              | inr not ↦ ap (λ p. get_or old p false) here ∙ not
            ]
      ];
      taken = λ k before within. elim (cases_lt k at) [
        | inl less ↦ keeps (get_or ps k 0) (was.taken k less within)
        | inr more ↦
            let end : k ≡ at = omega (arith, before, more) in
            ap (λ p. get_or new p false) (ap (λ i. get_or ps i 0) end ∙ sym is) ∙ own
      ];
    }

pub taking_free : (ps : List ℕ) (at : ℕ) (old now : List Bool) → AreTaking ps at old now → length ps ≤ at → (position : ℕ) → list_any (λ p. nat_eq p position) ps ≡ true → get_or old position false ≡ false
taking_free ps at old now was all = λ position says.
    let found = index_of_position ps position says in
    ap (λ p. get_or old p false) (sym found.2) ∙ was.free found.0 (omega (arith, found.1, all)) found.1

pub taking_all : (ps : List ℕ) (at : ℕ) (old now : List Bool) → AreTaking ps at old now → length ps ≤ at → (position : ℕ) → list_any (λ p. nat_eq p position) ps ≡ true → get_or now position false ≡ true
taking_all ps at old now was all = λ position says.
    let found = index_of_position ps position says in
    ap (λ p. get_or now p false) (sym found.2) ∙ was.taken found.0 (omega (arith, found.1, all)) found.1

-- the first of some words stand apart, and their positions are taken
pub record AreApartBelow (places : List (List ℕ)) (at : ℕ) (now : List Bool) : Type 0 where
  pub apart : (one other position : ℕ) → one < at → other < at → stands places one position ≡ true → stands places other position ≡ true → one ≡ other
  pub taken : (one position : ℕ) → one < at → stands places one position ≡ true → get_or now position false ≡ true

pub apart_none : (places : List (List ℕ)) (taken : List Bool) → AreApartBelow places 0 taken
apart_none places taken = record {
  apart = λ one other position before. absurd (omega (arith, before));
  taken = λ one position before. absurd (omega (arith, before));
}

pub apart_more : (places : List (List ℕ)) (at : ℕ) (ps : List ℕ) (old now : List Bool) → AreApartBelow places at old → get_or places at [] ≡ ps
    → ((position : ℕ) → get_or old position false ≡ true → get_or now position false ≡ true)
    → ((position : ℕ) → list_any (λ p. nat_eq p position) ps ≡ true → get_or old position false ≡ false)
    → ((position : ℕ) → list_any (λ p. nat_eq p position) ps ≡ true → get_or now position false ≡ true)
    → AreApartBelow places (at + 1) now
apart_more places at ps old now was is kept free taken =
    let own : (position : ℕ) → stands places at position ≡ true → list_any (λ p. nat_eq p position) ps ≡ true = λ position yes. sym (ap (λ (l : List ℕ). list_any (λ p. nat_eq p position) l) is) ∙ yes in
    let never : (one position : ℕ) → one < at → stands places one position ≡ true → stands places at position ≡ true → ⊥ =
    λ one position before yes here. false≢true (sym (free position (own position here)) ∙ was.taken one position before yes) in
    record {
      apart = λ one other position first second yes here. elim (cases_lt one at) [
        | inl low ↦ elim (cases_lt other at) [
          | inl below ↦ was.apart one other position low below yes here
          | inr from ↦
              let end : other ≡ at = omega (arith, second, from) in
              absurd (never one position low yes (subst (λ w. stands places w position ≡ true) end here))
        ]
        | inr high ↦
            let start : one ≡ at = omega (arith, first, high) in
            elim (cases_lt other at) [
              | inl below ↦ absurd (never other position below here (subst (λ w. stands places w position ≡ true) start yes))
              | inr from ↦ omega (arith, start, second, from)
            ]
      ];
      taken = λ one position before yes. elim (cases_lt one at) [
        | inl low ↦ kept position (was.taken one position low yes)
        | inr high ↦
            let start : one ≡ at = omega (arith, before, high) in
            taken position (own position (subst (λ w. stands places w position ≡ true) start yes))
      ];
    }

pub apart_all : (places : List (List ℕ)) (at : ℕ) (taken : List Bool) → AreApartBelow places at taken → length places ≤ at → AreApart places
apart_all places at taken was all = λ one other position first second yes here. was.apart one other position (omega (arith, first, all)) (omega (arith, second, all)) yes here
