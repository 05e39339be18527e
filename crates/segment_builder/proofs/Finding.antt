-- A term among terms in order: found by halves, and its ordinal.
use denote.Ref.{Bor}
use Rattle.std.proofs.Common.{◌≡◌, ℕ, zero, suc, ◌+◌, ◌<◌, ◌≤◌, true, false, List, [], ◌∷◌, length, map, get_or, nat_lt, slice_get, Some, Contains, inl, inr, refl, sym, ap, subst, ◌∙◌, arith}
use Rattle.std.specs.List.{All, AllByRecursion}
use Rattle.std.specs.Ordering.{is_gt, is_eq, eq_by_cmp, nat_cmp, ordering_reverse}
use Rattle.std.specs.declared.cmp.Ordering.{Ordering}
use Rattle.std.specs.declared.cmp.Ordering.TheVariants.{Less, Equal, Greater}
use Rattle.std.proofs.lemmas.Bool.{cases_lt}
use Rattle.std.proofs.lemmas.Bool.Decides.{nat_tests}
use Rattle.std.proofs.lemmas.Cmp.{by_ranked, eq_by_cmp_equiv, ranked}
use Rattle.std.proofs.lemmas.List.{get_or-map, length-map}
use Rattle.std.proofs.lemmas.List.Elements.{recursion_from_All}
use Rattle.std.proofs.lemmas.Map.Keys.{Less-from_sorted}
use Rattle.std.proofs.lemmas.Option.{get_or_from_slice_get, slice_get-get_or, slice_get_within}
use Rattle.term_table.specs.Terms.{AreAscending, term_cmp}
use Rattle.segment_builder.specs.Columns.{column_terms, named, named_group, named_row, ordinal_column, ordinal_of, ordinal_row, row_terms, terms_lent, IsFieldRange, IsFieldStart, IsKeywordColumn}
use Rattle.segment_builder.proofs.Among.{each_at}
use Rattle.segment_builder.proofs.InOrder.{less_back}
use Rattle.segment_builder.proofs.Sorted.{sorted_first, sorted_rest}
use Rattle.segment_builder.proofs.Orders.{term_order}

-- a term stands at a place from `low` on and below `high`
pub record IsBetween (terms : List (ℕ × List ℕ)) (term : ℕ × List ℕ) (low high : ℕ) : Type 0 where
  pub at : ℕ
  pub is : slice_get terms at ≡ Some term
  pub from : low ≤ at
  pub below : at < high

not_gt : (a : Ordering) → is_eq a ≡ true → is_gt a ≡ false
not_gt Less h = refl
not_gt Equal h = refl
not_gt Greater h = absurd (cc (h))

upto_not : (terms : List (ℕ × List ℕ)) (i j : ℕ) (one other : ℕ × List ℕ) → AreAscending terms → slice_get terms i ≡ Some one → slice_get terms j ≡ Some other → i ≤ j → is_gt (term_cmp one other) ≡ false
upto_not terms i j one other up first second le =
    elim (cases_lt i j) [
      | inl less ↦
          let inside : j < length terms = slice_get_within terms j other second in
          let here : get_or terms i one ≡ one = get_or_from_slice_get terms i one one first in
          let there : get_or terms j one ≡ other = get_or_from_slice_get terms j other one second in
          let before : term_cmp (get_or terms i one) (get_or terms j one) ≡ Less = Less-from_sorted term_cmp terms i j one up less inside in
          ap is_gt (ap (λ t. term_cmp t other) (sym here) ∙ ap (term_cmp (get_or terms i one)) (sym there) ∙ before)
      | inr from ↦
          let same_place : i ≡ j = omega (arith, le, from) in
          let here : get_or terms i one ≡ one = get_or_from_slice_get terms i one one first in
          let there : get_or terms j one ≡ other = get_or_from_slice_get terms j other one second in
          let same : one ≡ other = sym here ∙ ap (λ n. get_or terms n one) same_place ∙ there in
          not_gt (term_cmp one other) (subst (λ t. eq_by_cmp term_cmp one t ≡ true) same ((eq_by_cmp_equiv term_order.total).refl one))
    ]

-- ---- the terms of a field

after_is : (a b : ℕ) → b < a → nat_cmp a b ≡ Greater
after_is a b more = by_ranked (a < b) (a ≡ b) (b < a) (nat_cmp a b) (ranked a b (nat_cmp a b) refl) (λ _ less. absurd (omega (arith, less, more))) (λ _ same. absurd (omega (arith, same, more))) (λ is _. is)

fields_rise : (terms : List (ℕ × List ℕ)) (i j : ℕ) (one other : ℕ × List ℕ) → AreAscending terms → slice_get terms i ≡ Some one → slice_get terms j ≡ Some other → i ≤ j → one.0 ≤ other.0
fields_rise terms i j one other up first second le =
    elim (cases_lt other.0 one.0) [
      | inl more ↦ absurd (
          let after : is_gt (term_cmp one other) ≡ true = rw (after_is one.0 other.0 more) refl in
          let never : true ≡ false = sym after ∙ upto_not terms i j one other up first second le in cc (never))
      | inr from ↦ from
    ]

pub start_all : (terms : List (ℕ × List ℕ)) (field high : ℕ) → length terms ≡ high → IsFieldStart terms field 0 high
start_all terms field high long = record {
  before = λ at term is less. absurd (omega (arith, less));
  from = λ at term is behind. absurd (omega (arith, slice_get_within terms at term is, behind, long));
}

pub start_later : (terms : List (ℕ × List ℕ)) (field low middle high : ℕ) (own : ℕ × List ℕ) → AreAscending terms → IsFieldStart terms field low high → slice_get terms middle ≡ Some own → nat_lt own.0 field ≡ true → IsFieldStart terms field (middle + 1) high
start_later terms field low middle high own up start here smaller = record {
  before = λ at term is less. let less_own : own.0 < field = grind (arith, nat_tests, smaller) in omega (arith, fields_rise terms at middle term own up is here (omega (arith, less)), less_own);
  from = start.from;
}

pub start_sooner : (terms : List (ℕ × List ℕ)) (field low middle high : ℕ) (own : ℕ × List ℕ) → AreAscending terms → IsFieldStart terms field low high → slice_get terms middle ≡ Some own → nat_lt own.0 field ≡ false → IsFieldStart terms field low middle
start_sooner terms field low middle high own up start here from = record {
  before = start.before;
  from = λ at term is behind. let from_own : field ≤ own.0 = grind (arith, nat_tests, from) in omega (arith, fields_rise terms middle at own term up here is behind, from_own);
}

pub between_in : (terms : List (ℕ × List ℕ)) (field : ℕ) (bytes : List ℕ) (from end : ℕ) → IsFieldRange terms field from end → Contains terms (field, bytes) → IsBetween terms (field, bytes) from end
between_in terms field bytes from end range there =
    let is : slice_get terms there.0 ≡ Some (field, bytes) = slice_get-get_or terms there.0 (field, bytes) there.1 ∙ ap Some there.2 in
    record {
      at = there.0;
      is = is;
      from = elim (cases_lt there.0 from) [
        | inl less ↦ absurd (omega (arith, range.start.before there.0 (field, bytes) is less))
        | inr upto ↦ upto
      ];
      below = elim (cases_lt there.0 end) [
        | inl less ↦ less
        | inr upto ↦ absurd (omega (arith, range.stop.from there.0 (field, bytes) is upto))
      ];
    }

gt_from : (a b : Ordering) → a ≡ ordering_reverse b → b ≡ Less → is_gt a ≡ true
gt_from a b e less = rw (e, less) refl

-- what comes after the term stands behind it, and what doesn't stands at its place or in front of it
pub below_middle : (terms : List (ℕ × List ℕ)) (term own : ℕ × List ℕ) (low middle high : ℕ) → AreAscending terms → IsBetween terms term low high → slice_get terms middle ≡ Some own → is_gt (term_cmp own term) ≡ true → IsBetween terms term low middle
below_middle terms term own low middle high up between here after = record {
  at = between.at;
  is = between.is;
  from = between.from;
  below = elim (cases_lt between.at middle) [
    | inl less ↦ less
    | inr from ↦ absurd (let never : true ≡ false = sym after ∙ upto_not terms middle between.at own term up here between.is from in cc (never))
  ];
}

pub from_middle : (terms : List (ℕ × List ℕ)) (term own : ℕ × List ℕ) (low middle high : ℕ) → AreAscending terms → IsBetween terms term low high → slice_get terms middle ≡ Some own → is_gt (term_cmp own term) ≡ false → IsBetween terms term middle high
from_middle terms term own low middle high up between here before = record {
  at = between.at;
  is = between.is;
  from = elim (cases_lt between.at middle) [
    | inl less ↦ absurd (
        let inside : middle < length terms = slice_get_within terms middle own here in
        let first : get_or terms between.at term ≡ term = get_or_from_slice_get terms between.at term term between.is in
        let second : get_or terms middle term ≡ own = get_or_from_slice_get terms middle own term here in
        let earlier : term_cmp term own ≡ Less = ap (λ t. term_cmp t own) (sym first) ∙ ap (term_cmp (get_or terms between.at term)) (sym second) ∙ Less-from_sorted term_cmp terms between.at middle term up less inside in
        let turned : is_gt (term_cmp own term) ≡ true = gt_from (term_cmp own term) (term_cmp term own) (term_order.total.antisymm own term) earlier in
        let never : true ≡ false = sym turned ∙ before in cc (never))
    | inr from ↦ from
  ];
  below = between.below;
}

pub found_at_last : (terms : List (ℕ × List ℕ)) (term : ℕ × List ℕ) (low high : ℕ) → IsBetween terms term low high → high ≤ low + 1 → slice_get terms low ≡ Some term
found_at_last terms term low high between one =
    let place : low ≡ between.at = omega (arith, between.from, between.below, one) in
    ap (slice_get terms) place ∙ between.is

-- the term at a place
pub term_there : (terms : List (ℕ × Bor (List ℕ))) (place : ℕ) (d : ℕ × Bor (List ℕ)) → place < length terms → slice_get (terms_lent terms) place ≡ Some ((get_or terms place d).0, (get_or terms place d).1.now)
term_there terms place d inside =
    slice_get-get_or (terms_lent terms) place (d.0, d.1.now) (omega (arith, inside, length-map {B = ℕ × List ℕ} terms (λ (term : ℕ × Bor (List ℕ)). (term.0, term.1.now))))
    ∙ ap Some (get_or-map (λ (term : ℕ × Bor (List ℕ)). (term.0, term.1.now)) terms place d (d.0, d.1.now) inside)

-- ---- ordinals

-- a term stands once
pub ordinal_at : (terms : List (ℕ × List ℕ)) (at : ℕ) (term : ℕ × List ℕ) → AreAscending terms → slice_get terms at ≡ Some term → ordinal_of terms term ≡ at
ordinal_at [] at term up is = absurd (cc (is))
ordinal_at (own ∷ terms) zero term up is =
    let same : own ≡ term = cc (is) in
    rw (subst (λ t. eq_by_cmp term_cmp term t ≡ true) (sym same) ((eq_by_cmp_equiv term_order.total).refl term)) refl
ordinal_at (own ∷ terms) (suc at) term up is =
    let less : term_cmp own term ≡ Less = each_at (λ t. term_cmp own t ≡ Less) terms at term (sorted_first term_cmp own terms up) is in
    rw (less_back term_cmp term_order.total own term less) (ap suc (ordinal_at terms at term (sorted_rest term_cmp own terms up) is))

module _ (terms : List (ℕ × List ℕ)) (up : AreAscending terms) where
  named_values : (field : ℕ) (values : List (List ℕ)) → AllByRecursion (λ bytes. Contains terms (field, bytes)) values → map (slice_get terms) (map (λ bytes. ordinal_of terms (field, bytes)) values) ≡ named field values
  named_values field [] all = refl
  named_values field (value ∷ values) all =
      let is : slice_get terms all.0.0 ≡ Some (field, value) = slice_get-get_or terms all.0.0 (field, value) all.0.1 ∙ ap Some all.0.2 in
      rw (ordinal_at terms all.0.0 (field, value) up is, is, named_values field values all.1) refl

  named_rows : (field : ℕ) (rows : List (ℕ × List (List ℕ))) → AllByRecursion (λ (row : ℕ × List (List ℕ)). All (λ bytes. Contains terms (field, bytes)) row.1) rows → map (row_terms terms) (map (ordinal_row terms field) rows) ≡ map (named_row field) rows
  named_rows field [] all = refl
  named_rows field (row ∷ rows) all =
      rw (named_values field row.1 (recursion_from_All (λ bytes. Contains terms (field, bytes)) row.1 all.0), named_rows field rows all.1) refl

  pub named_columns : (groups : List (ℕ × List (ℕ × List (List ℕ)))) → AllByRecursion (IsKeywordColumn terms) groups → map (column_terms terms) (map (ordinal_column terms) groups) ≡ map named_group groups
  named_columns [] all = refl
  named_columns (group ∷ groups) all =
      rw (named_rows group.0 group.1 (recursion_from_All (λ (row : ℕ × List (List ℕ)). All (λ bytes. Contains terms (group.0, bytes)) row.1) group.1 all.0.entries.fit), named_columns groups all.1) refl
