-- Rows whose documents rise are the same where the same documents have the same values; what groups have at a key.
use Rattle.std.proofs.Common.{◌≡◌, ℕ, ◌+◌, ◌<◌, ◌≤◌, ◌==◌, Bool, true, false, ◌||◌, List, [], ◌∷◌, length, map, get_or, nat_lt, refl, sym, ap, subst, ◌∙◌, append-nil, arith, eq-eqb, eqb-true, lt-ltb, suc}
use Rattle.std.specs.List.{AllByRecursion, list_any}
use Rattle.std.specs.List.Sorted.{IsStrictlyIncreasing, IsStrictlySortedBy}
use Rattle.std.specs.Ordering.{eq_by_cmp, nat_cmp}
use Rattle.std.specs.declared.cmp.Ordering.{Ordering}
use Rattle.std.specs.declared.cmp.Ordering.TheVariants.{Less}
use Rattle.std.proofs.lemmas.Cmp.{by_ranked, ranked}
use Rattle.std.proofs.lemmas.Map.Keys.{sorted_head, sorted_tail}
use Rattle.doc_values.specs.Values.{values_of}
use Rattle.segment.specs.Agree.{AreWithin}
use Rattle.segment_builder.specs.Groups.{in_groups, keys}
use Rattle.segment_builder.specs.Rising.{AreRisingFrom}
use Rattle.segment_builder.proofs.InOrder.{nothing_at}
use Rattle.segment_builder.proofs.Keys.{split}
use Rattle.segment_builder.proofs.Merged.{IsExact, at_document, find}
use Rattle.segment_builder.proofs.Orders.{pair_same}
use Rattle.segment_builder.proofs.Rising.{key_is}

abbrev pub is_doc : {X : Type 0} → ℕ → ℕ × X → Bool
is_doc {X} doc row = row.0 == doc

-- ---- rows that rise

apart_below : (n doc : ℕ) → doc < n → (n == doc) ≡ false
apart_below n doc less = split (n == doc) (λ is. absurd (omega (arith, less, eqb-true n doc is))) (λ isnt. isnt)

pub none_below : {X : Type 0} (low high doc : ℕ) (rows : List (ℕ × X)) → AreRisingFrom low high rows → doc < low → list_any (is_doc doc) rows ≡ false
none_below low high doc [] up less = refl
none_below low high doc (row ∷ rows) up less =
    rw (apart_below row.0 doc (omega (arith, less, up.0))) (none_below (row.0 + 1) high doc rows up.2 (omega (arith, less, up.0)))

pub values_below : {X : Type 0} (low high doc : ℕ) (rows : List (ℕ × List X)) → AreRisingFrom low high rows → doc < low → values_of doc rows ≡ []
values_below low high doc [] up less = refl
values_below low high doc (row ∷ rows) up less =
    rw (apart_below row.0 doc (omega (arith, less, up.0))) (values_below (row.0 + 1) high doc rows up.2 (omega (arith, less, up.0)))

there_first : {X : Type 0} (row : ℕ × X) (rows : List (ℕ × X)) → list_any (is_doc row.0) (row ∷ rows) ≡ true
there_first row rows = rw (eq-eqb row.0 row.0 refl) refl

not_before : {X : Type 0} (high : ℕ) (x y : ℕ × X) (xs ys : List (ℕ × X)) → y.0 < high → AreRisingFrom (y.0 + 1) high ys → list_any (is_doc x.0) (x ∷ xs) ≡ list_any (is_doc x.0) (y ∷ ys) → x.0 < y.0 → ⊥
not_before high x y xs ys below rise same less =
    let none : list_any (is_doc x.0) (y ∷ ys) ≡ false = none_below y.0 high x.0 (y ∷ ys) (omega arith, below, rise) less in
    let never : true ≡ false = sym (there_first x xs) ∙ same ∙ none in cc (never)

tie : (a b : ℕ) → (a < b → ⊥) → (b < a → ⊥) → a ≡ b
tie a b one other = by_ranked (a < b) (a ≡ b) (b < a) (nat_cmp a b) (ranked a b (nat_cmp a b) refl) (λ _ less. absurd (one less)) (λ _ same. same) (λ _ more. absurd (other more))

pub same_rows : {X : Type 0} (low high : ℕ) (xs ys : List (ℕ × List X)) → AreRisingFrom low high xs → AreRisingFrom low high ys
    → ((doc : ℕ) → doc < high → list_any (is_doc doc) xs ≡ list_any (is_doc doc) ys) → ((doc : ℕ) → doc < high → values_of doc xs ≡ values_of doc ys) → xs ≡ ys
same_rows low high [] [] up rise docs values = refl
same_rows low high [] (y ∷ ys) up rise docs values = absurd (let never : false ≡ true = docs y.0 rise.1 ∙ there_first y ys in cc (never))
same_rows low high (x ∷ xs) [] up rise docs values = absurd (let never : true ≡ false = sym (there_first x xs) ∙ docs x.0 up.1 in cc (never))
same_rows {X} low high (x ∷ xs) (y ∷ ys) up rise docs values =
    let same : x.0 ≡ y.0 = tie x.0 y.0 (not_before high x y xs ys rise.1 rise.2 (docs x.0 up.1)) (not_before high y x ys xs up.1 up.2 (sym (docs y.0 rise.1))) in
    let mine : values_of x.0 (x ∷ xs) ≡ x.1 = rw (eq-eqb x.0 x.0 refl) refl in
    let yours : values_of x.0 (y ∷ ys) ≡ y.1 = rw (eq-eqb y.0 x.0 (sym same)) refl in
    let first : x ≡ y = pair_same x y same (sym mine ∙ values x.0 up.1 ∙ yours) in
    let begins : AreRisingFrom (x.0 + 1) high ys = subst (λ n. AreRisingFrom (n + 1) high ys) (sym same) rise.2 in
    let rest : xs ≡ ys =
    same_rows (x.0 + 1) high xs ys up.2 begins
    (λ doc below.
    split (x.0 == doc)
    (λ is.
    let here : x.0 ≡ doc = eqb-true x.0 doc is in
    none_below (x.0 + 1) high doc xs up.2 (omega (arith, here)) ∙ sym (none_below (x.0 + 1) high doc ys begins (omega (arith, here))))
    (λ isnt.
    let other : (y.0 == doc) ≡ false = subst (λ n. (n == doc) ≡ false) same isnt in
    let whole : (x.0 == doc || list_any (is_doc doc) xs) ≡ (y.0 == doc || list_any (is_doc doc) ys) = docs doc below in
    (rw (isnt, other) at whole)))
    (λ doc below.
    split (x.0 == doc)
    (λ is.
    let here : x.0 ≡ doc = eqb-true x.0 doc is in
    values_below (x.0 + 1) high doc xs up.2 (omega (arith, here)) ∙ sym (values_below (x.0 + 1) high doc ys begins (omega (arith, here))))
    (λ isnt.
    let other : (y.0 == doc) ≡ false = subst (λ n. (n == doc) ≡ false) same isnt in
    let left : values_of doc (x ∷ xs) ≡ values_of doc xs = rw isnt refl in
    let right : values_of doc (y ∷ ys) ≡ values_of doc ys = rw other refl in
    sym left ∙ values doc below ∙ right)) in
    ap (λ (row : ℕ × List X). row ∷ xs) first ∙ ap (λ (rows : List (ℕ × List X)). y ∷ rows) rest

abbrev pub AreValued : {X : Type 0} → List (ℕ × List X) → Type 0
AreValued {X} rows = AllByRecursion (λ (row : ℕ × List X). 0 < length row.1) rows

by_values : {X : Type 0} (doc : ℕ) (rows : List (ℕ × List X)) → AreValued rows → list_any (is_doc doc) rows ≡ nat_lt 0 (length (values_of doc rows))
by_values doc [] some = refl
by_values doc (row ∷ rows) some =
    split (row.0 == doc)
    (λ is. rw is (sym (lt-ltb 0 (length row.1) some.0)))
    (λ isnt. rw isnt (by_values doc rows some.1))

-- rows that each have values
pub same_valued : {X : Type 0} (high : ℕ) (xs ys : List (ℕ × List X)) → AreRisingFrom 0 high xs → AreRisingFrom 0 high ys → AreValued xs → AreValued ys
    → ((doc : ℕ) → doc < high → values_of doc xs ≡ values_of doc ys) → xs ≡ ys
same_valued {X} high xs ys up rise some full values =
    same_rows 0 high xs ys up rise (λ doc below. by_values doc xs some ∙ ap (λ (vs : List X). nat_lt 0 (length vs)) (values doc below) ∙ sym (by_values doc ys full)) values

-- ---- from indexes

abbrev pub docs_in : {X : Type 0} → List (ℕ × X) → List ℕ
docs_in {X} rows = map (λ (row : ℕ × X). row.0) rows

increasing_tail : (x : ℕ) (xs : List ℕ) → IsStrictlyIncreasing (x ∷ xs) → IsStrictlyIncreasing xs
increasing_tail x xs up k h =
    let e : suc k + 1 ≡ suc (k + 1) = omega arith in
    subst (λ n. get_or (x ∷ xs) (suc k) 0 < get_or (x ∷ xs) n 0) e (up (suc k) (omega (arith, h)))

rising_from : {X : Type 0} (low high : ℕ) (rows : List (ℕ × X)) → (0 < length rows → low ≤ get_or (docs_in rows) 0 0) → IsStrictlyIncreasing (docs_in rows) → AreWithin high rows → AreRisingFrom low high rows
rising_from low high [] first up within = tt
rising_from {X} low high (row ∷ rows) first up within =
    let here : row.0 < high = within 0 row (omega arith) in
    (first (omega arith), here, rising_from (row.0 + 1) high rows (next rows up) (increasing_tail row.0 (docs_in rows) up) (λ k d h. within (suc k) d (omega (arith, h))))
  where
    next : (rest : List (ℕ × X)) → IsStrictlyIncreasing (row.0 ∷ docs_in rest) → 0 < length rest → row.0 + 1 ≤ get_or (docs_in rest) 0 0
    next [] rise some = absurd (omega (arith, some))
    next (other ∷ rest) rise some = omega (arith, rise 0 (omega arith))

pub rising : {X : Type 0} (high : ℕ) (rows : List (ℕ × X)) → IsStrictlyIncreasing (docs_in rows) → AreWithin high rows → AreRisingFrom 0 high rows
rising high rows up within = rising_from 0 high rows (λ _. omega arith) up within

-- ---- groups at a key

module _ {K P : Type 0} (cmp : K → K → Ordering) (o : IsExact cmp) where
  own_group : (key : K) (group : K × List P) (groups : List (K × List P)) → IsStrictlySortedBy cmp (keys (group ∷ groups)) → eq_by_cmp cmp key group.0 ≡ true → in_groups cmp key (group ∷ groups) ≡ group.1
  own_group key group groups up is =
      let behind : AllByRecursion (λ k. cmp key k ≡ Less) (keys groups) = subst (λ k. AllByRecursion (λ other. cmp k other ≡ Less) (keys groups)) (sym (key_is cmp o key group.0 is)) (sorted_head cmp group.0 (keys groups) up) in
      rw (is, nothing_at cmp o.total key groups behind) (append-nil group.1)

  -- what holds of each group, and of nothing, holds of what stands at a key
  pub at_key : (Q : K → List P → Type 0) (key : K) (groups : List (K × List P)) → Q key [] → IsStrictlySortedBy cmp (keys groups) → AllByRecursion (λ (group : K × List P). Q group.0 group.1) groups → Q key (in_groups cmp key groups)
  at_key Q key [] none up all = none
  at_key Q key (group ∷ groups) none up all =
      split (eq_by_cmp cmp key group.0)
      (λ is. subst (Q key) (sym (own_group key group groups up is)) (subst (λ k. Q k group.1) (sym (key_is cmp o key group.0 is)) all.0))
      (λ isnt. rw isnt (at_key Q key groups none (sorted_tail cmp group.0 (keys groups) up) all.1))

module _ {K X : Type 0} (cmp : K → K → Ordering) (o : IsExact cmp) where
  no_length : (values : List X) → nat_lt 0 (length values) ≡ false → values ≡ []
  no_length [] none = refl
  no_length (value ∷ values) none = absurd (let never : true ≡ false = sym (lt-ltb 0 (length (value ∷ values)) (omega arith)) ∙ none in cc (never))

  -- what a document finds at a key is what the groups have of it there
  pub find_at : (doc : ℕ) (key : K) (groups : List (K × List (ℕ × List X))) → IsStrictlySortedBy cmp (keys groups) → find cmp o key (at_document cmp o doc groups) ≡ values_of doc (in_groups cmp key groups)
  find_at doc key [] up = refl
  find_at doc key (group ∷ groups) up =
      let more = find_at doc key groups (sorted_tail cmp group.0 (keys groups) up) in
      split (eq_by_cmp cmp key group.0)
      (λ is.
      let own : values_of doc (in_groups cmp key (group ∷ groups)) ≡ values_of doc group.1 = ap (values_of doc) (own_group cmp o key group groups up is) in
      split (nat_lt 0 (length (values_of doc group.1)))
      (λ some.
      let first : find cmp o key (at_document cmp o doc (group ∷ groups)) ≡ values_of doc group.1 = rw (some, is) refl in
      first ∙ sym own)
      (λ none.
      let behind : AllByRecursion (λ k. cmp key k ≡ Less) (keys groups) = subst (λ k. AllByRecursion (λ other. cmp k other ≡ Less) (keys groups)) (sym (key_is cmp o key group.0 is)) (sorted_head cmp group.0 (keys groups) up) in
      let first : find cmp o key (at_document cmp o doc (group ∷ groups)) ≡ find cmp o key (at_document cmp o doc groups) = rw none refl in
      first ∙ more ∙ ap (values_of doc) (nothing_at cmp o.total key groups behind) ∙ sym (no_length (values_of doc group.1) none) ∙ sym own))
      (λ isnt.
      let rest : values_of doc (in_groups cmp key (group ∷ groups)) ≡ values_of doc (in_groups cmp key groups) = rw isnt refl in
      split (nat_lt 0 (length (values_of doc group.1)))
      (λ some.
      let first : find cmp o key (at_document cmp o doc (group ∷ groups)) ≡ find cmp o key (at_document cmp o doc groups) = rw (some, isnt) refl in
      first ∙ more ∙ sym rest)
      (λ none.
      let first : find cmp o key (at_document cmp o doc (group ∷ groups)) ≡ find cmp o key (at_document cmp o doc groups) = rw none refl in
      first ∙ more ∙ sym rest))
