-- What columns have at a field, as it is seen by the values of a document, by the terms of ordinals and by the flags of a set.
use Rattle.std.proofs.Common.{◌≡◌, ℕ, suc, zero, ◌+◌, ◌<◌, ◌==◌, Bool, true, false, cond, List, [], ◌∷◌, length, map, get_or, slice_get, Option, Some, None, IsSomeAnd, refl, sym, ap, ◌∙◌, arith, eq-eqb, eqb-true}
use Rattle.std.specs.List.{AllByRecursion, filter}
use Rattle.std.specs.Ordering.{eq_by_cmp, nat_cmp}
use Rattle.std.specs.declared.cmp.Ordering.{Ordering}
use Rattle.std.proofs.lemmas.List.{map-append}
use Rattle.doc_values.specs.Values.{values_of}
use Rattle.segment.specs.Flat.{bytes_at}
use Rattle.segment_parts.specs.Text.{marked_places}
use Rattle.segment_builder.specs.ByKey.{marked_docs}
use Rattle.segment_builder.specs.Columns.{named}
use Rattle.segment_builder.specs.Groups.{in_groups}
use Rattle.segment_builder.specs.Rising.{AreRisingFrom}
use Rattle.segment_builder.proofs.Found.{bytes_from}
use Rattle.segment_builder.proofs.Keys.{split}
use Rattle.segment_builder.proofs.Merged.{IsExact, at_document, find}
use Rattle.segment_builder.proofs.Orders.{nat_order, pair_same}
use Rattle.segment_builder.proofs.SameRows.{AreValued, values_below}
use Rattle.segment_builder.proofs.Texts.{text_group, text_member}

-- ---- rows whose values are seen as others

abbrev pub row_as : {X Y : Type 0} → (List X → List Y) → ℕ × List X → ℕ × List Y
row_as {X} {Y} g row = (row.0, g row.1)

pub rises_as : {X Y : Type 0} (g : List X → List Y) (low high : ℕ) (rows : List (ℕ × List X)) → AreRisingFrom low high rows → AreRisingFrom low high (map (row_as g) rows)
rises_as g low high [] up = tt
rises_as g low high (row ∷ rows) up = (up.0, up.1, rises_as g (row.0 + 1) high rows up.2)

pub valued_as : {X Y : Type 0} (g : List X → List Y) → ((values : List X) → length (g values) ≡ length values) → (rows : List (ℕ × List X)) → AreValued rows → AreValued (map (row_as g) rows)
valued_as g long [] some = tt
valued_as g long (row ∷ rows) some = (omega (arith, long row.1, some.0), valued_as g long rows some.1)

-- what holds of no values and of those of each row holds of those of a document
pub values_case : {X : Type 0} (P : List X → Type 0) (doc : ℕ) (rows : List (ℕ × List X)) → P [] → AllByRecursion (λ (row : ℕ × List X). P row.1) rows → P (values_of doc rows)
values_case P doc [] none all = none
values_case {X} P doc (row ∷ rows) none all =
    split (row.0 == doc)
    (λ is. rw is all.0)
    (λ isnt. rw isnt (values_case P doc rows none all.1))

module _ {K P Q : Type 0} (cmp : K → K → Ordering) (f : P → Q) where
  abbrev pub group_of : K × List P → K × List Q
  group_of group = (group.0, map f group.1)

  pub in_mapped : (key : K) (groups : List (K × List P)) → in_groups cmp key (map group_of groups) ≡ map f (in_groups cmp key groups)
  in_mapped key [] = refl
  in_mapped key (group ∷ groups) =
      split (eq_by_cmp cmp key group.0)
      (λ is. rw (is, in_mapped key groups) (sym (map-append f group.1 (in_groups cmp key groups))))
      (λ isnt. rw (isnt, in_mapped key groups) refl)

pub find_mapped : {K X Y : Type 0} (cmp : K → K → Ordering) (o : IsExact cmp) (g : List X → List Y) → g [] ≡ [] → (key : K) (pairs : List (K × List X)) → find cmp o key (map (λ (pair : K × List X). (pair.0, g pair.1)) pairs) ≡ g (find cmp o key pairs)
find_mapped cmp o g none key [] = sym none
find_mapped cmp o g none key (pair ∷ pairs) =
    split (eq_by_cmp cmp key pair.0)
    (λ is. rw is refl)
    (λ isnt. rw isnt (find_mapped cmp o g none key pairs))

-- ---- ordinals

abbrev pub IsOfField : List (ℕ × List ℕ) → ℕ → ℕ → Type 0
IsOfField terms field ordinal = IsSomeAnd (slice_get terms ordinal) (λ (term : ℕ × List ℕ). term.0 ≡ field)

known_from : (terms : List (ℕ × List ℕ)) (field ordinal : ℕ) (found : Option (ℕ × List ℕ)) → slice_get terms ordinal ≡ found → IsSomeAnd found (λ (term : ℕ × List ℕ). term.0 ≡ field) → slice_get terms ordinal ≡ Some (field, bytes_at terms ordinal)
known_from terms field ordinal None is same = absurd same
known_from terms field ordinal (Some (f, bytes)) is same =
    is ∙ ap Some (pair_same (f, bytes) (field, bytes_at terms ordinal) same (sym (bytes_from terms ordinal f bytes is)))

pub named_back : (terms : List (ℕ × List ℕ)) (field : ℕ) (ordinals : List ℕ) → AllByRecursion (IsOfField terms field) ordinals → map (slice_get terms) ordinals ≡ named field (map (bytes_at terms) ordinals)
named_back terms field [] all = refl
named_back terms field (ordinal ∷ ordinals) all = rw (known_from terms field ordinal (slice_get terms ordinal) refl all.0, named_back terms field ordinals all.1) refl

-- ---- sets of documents

pub members_valued : (docs : List ℕ) → AreValued (map text_member docs)
members_valued [] = tt
members_valued (doc ∷ docs) = (omega arith, members_valued docs)

pub members_back : (docs : List ℕ) → map (λ (row : ℕ × List ℕ). row.0) (map text_member docs) ≡ docs
members_back [] = refl
members_back (doc ∷ docs) = ap (λ rest. doc ∷ rest) (members_back docs)

rises_sooner : (low lower high : ℕ) (rows : List (ℕ × List ℕ)) → lower < low → AreRisingFrom low high rows → AreRisingFrom lower high rows
rises_sooner low lower high [] less up = tt
rises_sooner low lower high (row ∷ rows) less up = (omega (arith, less, up.0), up.1, up.2)

pub places_rise : (start : ℕ) (flags : List Bool) → AreRisingFrom start (start + length flags) (map text_member (marked_places start flags))
places_rise start [] = tt
places_rise start (true ∷ flags) =
    let e : start + 1 + length flags ≡ start + length (true ∷ flags) = omega arith in
    (omega arith, omega arith, rw e at (places_rise (start + 1) flags))
places_rise start (false ∷ flags) =
    let e : start + 1 + length flags ≡ start + length (false ∷ flags) = omega arith in
    let rest : AreRisingFrom (start + 1) (start + length (false ∷ flags)) (map text_member (marked_places (start + 1) flags)) = rw e at (places_rise (start + 1) flags) in
    rises_sooner (start + 1) start (start + length (false ∷ flags)) (map text_member (marked_places (start + 1) flags)) (omega arith) rest

differ : (n doc : ℕ) → n < doc → (n == doc) ≡ false
differ n doc less = split (n == doc) (λ is. absurd (omega (arith, less, eqb-true n doc is))) (λ isnt. isnt)

member_at : (start k : ℕ) (flags : List Bool) → values_of (start + k) (map text_member (marked_places start flags)) ≡ cond (get_or flags k false) (0 ∷ []) []
member_at start k [] = refl
member_at start zero (true ∷ flags) =
    let e : start + zero ≡ start = omega arith in
    rw (e, eq-eqb start start refl) refl
member_at start (suc k) (true ∷ flags) =
    let e : start + suc k ≡ start + 1 + k = omega arith in
    let isnt : (start == start + suc k) ≡ false = differ start (start + suc k) (omega arith) in
    rw isnt (ap (λ n. values_of n (map text_member (marked_places (start + 1) flags))) e ∙ member_at (start + 1) k flags)
member_at start zero (false ∷ flags) =
    let e : start + zero ≡ start = omega arith in
    rw e (values_below (start + 1) (start + 1 + length flags) start (map text_member (marked_places (start + 1) flags)) (places_rise (start + 1) flags) (omega arith))
member_at start (suc k) (false ∷ flags) =
    let e : start + suc k ≡ start + 1 + k = omega arith in
    ap (λ n. values_of n (map text_member (marked_places (start + 1) flags))) e ∙ member_at (start + 1) k flags

abbrev pub set_groups : List (ℕ × List Bool) → List (ℕ × List (ℕ × List ℕ))
set_groups present = map text_group (map marked_docs present)

-- the text fields of a document are those whose sets have it
pub present_at : (doc : ℕ) (present : List (ℕ × List Bool))
    → at_document nat_cmp nat_order doc (set_groups present) ≡ map (λ field. (field, 0 ∷ [])) (map (λ (column : ℕ × List Bool). column.0) (filter (λ (column : ℕ × List Bool). get_or column.1 doc false) present))
present_at doc [] = refl
present_at doc (column ∷ present) =
    let e : 0 + doc ≡ doc = omega arith in
    let own : values_of doc (map text_member (marked_places 0 column.1)) ≡ cond (get_or column.1 doc false) (0 ∷ []) [] = rw e at (member_at 0 doc column.1) in
    split (get_or column.1 doc false)
    (λ is.
    let some : values_of doc (map text_member (marked_places 0 column.1)) ≡ 0 ∷ [] = rw is at own in
    rw (is, some) (ap (λ rest. (column.0, 0 ∷ []) ∷ rest) (present_at doc present)))
    (λ isnt.
    let none : values_of doc (map text_member (marked_places 0 column.1)) ≡ [] = rw isnt at own in
    rw (isnt, none) (present_at doc present))

pub sets_rise : (count : ℕ) (present : List (ℕ × List Bool)) → AllByRecursion (λ (column : ℕ × List Bool). length column.1 ≡ count) present → AllByRecursion (λ (group : ℕ × List (ℕ × List ℕ)). AreRisingFrom 0 count group.1) (set_groups present)
sets_rise count [] long = tt
sets_rise count (column ∷ present) long =
    let e : 0 + length column.1 ≡ count = omega (arith, long.0) in
    (rw e at (places_rise 0 column.1), sets_rise count present long.1)

pub sets_valued : (present : List (ℕ × List Bool)) → AllByRecursion (λ (group : ℕ × List (ℕ × List ℕ)). AreValued group.1) (set_groups present)
sets_valued [] = tt
sets_valued (column ∷ present) = (members_valued (marked_places 0 column.1), sets_valued present)
