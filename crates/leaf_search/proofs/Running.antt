-- Words that stand one after the other, looked for from one position to the next.
use Rattle.std.proofs.Common.{◌≡◌, ℕ, suc, ◌+◌, ◌-◌, ◌<◌, ◌≤◌, Bool, true, false, cond, List, [], ◌∷◌, length, get_or, All, refl, sym, ap, subst, ◌∙◌, inl, inr, arith, nat_eq}
use Rattle.std.specs.List.{list_any}
use Rattle.std.proofs.lemmas.Bool.{cases_Bool, cases_lt, eqb-true, false≢true}
use Rattle.std.proofs.lemmas.List.{get_or-map, length-map}
use Rattle.postings.specs.Postings.{Standing, present_positions}
use Rattle.leaf_search.specs.Patterns.{AreApart, AreShifts, IsRun, IsShift, positions_in, stands}
use Rattle.leaf_search.proofs.Halving.{Ascend}

abbrev Places : Type 0
Places = List (List ℕ)

-- the index of a position
pub index_of_position : (ps : List ℕ) (position : ℕ) → list_any (λ p. nat_eq p position) ps ≡ true → (k : ℕ) × (k < length ps) × (get_or ps k 0 ≡ position)
index_of_position [] position says = absurd (false≢true says)
index_of_position (p ∷ ps) position says = elim (cases_Bool (nat_eq p position)) [
  | inl same ↦ (0, omega arith, eqb-true p position same)
  | inr other ↦ let rest = index_of_position ps position (rw other at says) in (suc rest.0, omega (arith, rest.1), rest.2)
]

-- the positions of a word, by its cursor
pub places_of : (cursors : List Standing) (word : ℕ) (cursor : Standing) → word < length cursors → cursor ≡ get_or cursors word cursor → get_or (positions_in cursors) word [] ≡ present_positions cursor
places_of cursors word cursor inside is = get_or-map present_positions cursors word cursor [] inside ∙ ap present_positions (sym is)

pub run_more : (places : Places) (words : List ℕ) (start count : ℕ) → IsRun places words start count → stands places (get_or words count 0) (start + count) ≡ true → IsRun places words start (count + 1)
run_more places words start count was own = λ i inside. elim (cases_lt i count) [
  | inl before ↦ was i before
  | inr from ↦
      let end : count ≡ i = omega (arith, inside, from) in
      subst (λ k. stands places (get_or words k 0) (start + k) ≡ true) end own
]

-- before a position the words stand nowhere, so many of them stand there, and those of the first word that were looked at lie before it
pub record AreSearched (places : Places) (words ps : List ℕ) (start count at : ℕ) : Type 0 where
  pub fewer : count < length words
  pub run : IsRun places words start count
  pub none : (from : ℕ) → from < start → IsRun places words from (length words) → ⊥
  pub passed : (k : ℕ) → k < at → k < length ps → get_or ps k 0 < start

pub searched_first : (places : Places) (words ps : List ℕ) → 0 < length words → AreSearched places words ps 0 0 0
searched_first places words ps some = record {
  fewer = some;
  run = λ i inside. absurd (omega (arith, inside));
  none = λ from before. absurd (omega (arith, before));
  passed = λ k before. absurd (omega (arith, before));
}

pub searched_past : (places : Places) (words ps : List ℕ) (start count at position : ℕ) → AreSearched places words ps start count at → position ≡ get_or ps at 0 → position < start → AreSearched places words ps start count (at + 1)
searched_past places words ps start count at position was is past = record {
  fewer = was.fewer;
  run = was.run;
  none = was.none;
  passed = λ k before inside. elim (cases_lt k at) [
    | inl less ↦ was.passed k less inside
    | inr more ↦
        let end : k ≡ at = omega (arith, before, more) in
        omega (arith, ap (λ i. get_or ps i 0) end, is, past)
  ];
}

-- the words that are known to stand from a position on
pub known_there : (places : Places) (words ps : List ℕ) (start count at position : ℕ) → AreSearched places words ps start count at → IsRun places words position (cond (nat_eq position start) count 0)
known_there places words ps start count at position was = elim (cases_Bool (nat_eq position start)) [
  | inl same ↦ rw same (subst (λ p. IsRun places words p count) (sym (eqb-true position start same)) was.run)
  | inr other ↦ rw other (λ i inside. absurd (omega (arith, inside)))
]

module _ (places : Places) (words ps : List ℕ) (up : Ascend ps) (own : get_or places (get_or words 0 0) [] ≡ ps) where
  first_stands : (from count : ℕ) → 0 < count → IsRun places words from count → (k : ℕ) × (k < length ps) × (get_or ps k 0 ≡ from)
  first_stands from count some run =
      let here : from + 0 ≡ from = omega arith in
      index_of_position ps from (sym (ap (λ (l : List ℕ). list_any (λ p. nat_eq p from) l) own) ∙ subst (λ k. stands places (get_or words 0 0) k ≡ true) here (run 0 some))

  none_before : (start count at position from : ℕ) → AreSearched places words ps start count at → at < length ps → position ≡ get_or ps at 0 → from < position → IsRun places words from (length words) → ⊥
  none_before start count at position from was inside is before run = elim (cases_lt from start) [
    | inl less ↦ was.none from less run
    | inr more ↦
        let found = first_stands from (length words) (omega (arith, was.fewer)) run in
        elim (cases_lt found.0 at) [
          | inl gone ↦ omega (arith, was.passed found.0 gone found.1, found.2, more)
          | inr left ↦ elim (cases_lt at found.0) [
            | inl later ↦ omega (arith, up at found.0 later found.1, found.2, is, before)
            | inr same ↦
                let equal : found.0 ≡ at = omega (arith, left, same) in
                omega (arith, ap (λ i. get_or ps i 0) equal, found.2, is, before)
          ]
        ]
  ]

  -- all words stand nowhere
  pub searched_none : (start count at : ℕ) → AreSearched places words ps start count at → length ps ≤ at → (from : ℕ) → IsRun places words from (length words) → ⊥
  searched_none start count at was all = λ from run.
      let found = first_stands from (length words) (omega (arith, was.fewer)) run in
      was.none from (omega (arith, was.passed found.0 (omega (arith, found.1, all)) found.1, found.2)) run

  -- where the words that stand don't stand on themselves
  apart_stops : (position count further from : ℕ) → AreApart places → All (λ word. word < length places) words → IsRun places words position count → count < length words → IsShift words count further → position < from → from < position + further → IsRun places words from (length words) → ⊥
  apart_stops position count further from apart within run fewer it after before all =
      let less : ℕ = from - position in
      it.least less (omega (arith, after)) (omega (arith, after, before))
      (λ i inside.
      let same : position + (less + i) ≡ from + i = omega (arith, after) in
      let here : stands places (get_or words (less + i) 0) (from + i) ≡ true = subst (λ k. stands places (get_or words (less + i) 0) k ≡ true) same (run (less + i) inside) in
      apart (get_or words (less + i) 0) (get_or words i 0) (from + i) (within (less + i) 0 (omega (arith, inside, fewer))) (within i 0 (omega (arith, inside, fewer))) here (all i (omega (arith, inside, fewer))))

  module _ (shifts : List ℕ) (are : AreShifts words shifts) (long : length shifts ≡ length words) (within : All (λ word. word < length places) words) where
    -- some words stand from a position on, and the next doesn't
    pub searched_more : (apart : Bool) (start count at position found further left : ℕ) → (apart ≡ true → AreApart places) → AreSearched places words ps start count at → at < length ps → position ≡ get_or ps at 0 → start ≤ position
        → IsRun places words position found → found < length words → stands places (get_or words found 0) (position + found) ≡ false → further ≡ cond apart (get_or shifts found 0) 1 → left ≡ cond apart (found - get_or shifts found 0) 0
        → AreSearched places words ps (position + further) left (at + 1)
    searched_more apart start count at position found further left alone was inside is from run fewer stops further_is left_is =
        let fails : IsRun places words position (length words) → ⊥ = λ all. false≢true (sym stops ∙ all found fewer) in
        let behind : (f : ℕ) → 0 < f → (k : ℕ) → k < at + 1 → k < length ps → get_or ps k 0 < position + f =
        λ f some k before low. elim (cases_lt k at) [
          | inl less ↦ omega (arith, was.passed k less low, from)
          | inr more ↦
              let end : k ≡ at = omega (arith, before, more) in
              omega (arith, ap (λ i. get_or ps i 0) end, is, some)
        ] in
        by apart alone further_is left_is fails behind
      where
        by : (a : Bool) → (a ≡ true → AreApart places) → further ≡ cond a (get_or shifts found 0) 1 → left ≡ cond a (found - get_or shifts found 0) 0
            → (IsRun places words position (length words) → ⊥) → ((f : ℕ) → 0 < f → (k : ℕ) → k < at + 1 → k < length ps → get_or ps k 0 < position + f) → AreSearched places words ps (position + further) left (at + 1)
        by true alone f_is l_is fails behind =
            let it : IsShift words found further = subst (IsShift words found) (sym f_is) (are found (omega (arith, fewer, long))) in
            record {
              fewer = omega (arith, fewer, l_is);
              run = λ i low.
                  let same : position + (further + i) ≡ position + further + i = omega arith in
                  let moved : stands places (get_or words (further + i) 0) (position + further + i) ≡ true = subst (λ k. stands places (get_or words (further + i) 0) k ≡ true) same (run (further + i) (omega (arith, low, l_is, f_is))) in
                  subst (λ w. stands places w (position + further + i) ≡ true) (it.repeats i (omega (arith, low, l_is, f_is))) moved;
              none = λ k low all. elim (cases_lt k position) [
                | inl less ↦ none_before start count at position k was inside is less all
                | inr more ↦ elim (cases_lt position k) [
                  | inl after ↦ apart_stops position found further k (alone refl) within run fewer it after low all
                  | inr own ↦
                      let here : k ≡ position = omega (arith, more, own) in
                      fails (subst (λ p. IsRun places words p (length words)) here all)
                ]
              ];
              passed = behind further it.some;
            }
        by false alone f_is l_is fails behind = record {
          fewer = omega (arith, fewer, l_is);
          run = λ i low. absurd (omega (arith, low, l_is));
          none = λ k low all. elim (cases_lt k position) [
            | inl less ↦ none_before start count at position k was inside is less all
            | inr more ↦
                let here : k ≡ position = omega (arith, more, low, f_is) in
                fails (subst (λ p. IsRun places words p (length words)) here all)
          ];
          passed = behind further (omega (arith, f_is));
        }

pub all_within : (cursors : List Standing) (words : List ℕ) → All (λ word. word < length cursors) words → All (λ word. word < length (positions_in cursors)) words
all_within cursors words all = λ k d inside. omega (arith, all k d inside, length-map cursors present_positions)
