-- What documents carry that columns that agree say: in order, no more than a segment can hold, and fitting its types.
use Rattle.std.proofs.Common.{◌≡◌, ℕ, ℤ, zero, suc, ◌+◌, ◌<◌, ◌≤◌, ◌^◌, ◌==◌, Bool, true, false, nat_lt, List, [], ◌∷◌, length, map, filter, get_or, slice_get, Option, Some, None, Contains, FitsSigned, w64, IsSomeAnd, refl, sym, ap, subst, ◌∙◌, arith, eq-eqb, eqb-true, ltb-true}
use Rattle.std.specs.Cmp.Lexicographic.{slice_cmp}
use Rattle.std.specs.List.{All, AllByRecursion}
use Rattle.std.specs.List.Sorted.{IsSorted, IsStrictlyIncreasing, IsStrictlySortedBy}
use Rattle.std.specs.Ordering.{int_cmp, is_lt, nat_cmp, ordering_reverse, ordering_then}
use Rattle.std.specs.declared.cmp.Ordering.{Ordering}
use Rattle.std.specs.declared.cmp.Ordering.TheVariants.{Less, Equal, Greater}
use Rattle.std.proofs.lemmas.Bool.Decides.{nat_tests}
use Rattle.std.proofs.lemmas.Cmp.{nat_cmp_total, nat_list_cmp_total}
use Rattle.std.proofs.lemmas.List.{get_or-map, length-map}
use Rattle.std.proofs.lemmas.List.Elements.{All-filter, All-map, All-head, All-tail, filter_passes}
use Rattle.std.proofs.lemmas.Map.Keys.{sorted_from_all_adjacent, sorted_head, sorted_tail}
use Rattle.std.proofs.lemmas.Option.{slice_get-get_or, get_or_from_slice_get, slice_get_within}
use Rattle.doc_values.specs.Values.{values_of}
use Rattle.segment.specs.Agree.{AreColumns, IsTermOf, IsWordAt, HaveOrdinals}
use Rattle.segment.specs.Fields.{column_of, fields}
use Rattle.segment.specs.Flat.{bytes_at, flat_of, has_some, values_at, words_at}
use Rattle.segment.specs.Lists.{terms_of, postings_of}
use Rattle.segment_builder.specs.Form.{IsFit, IsOrdered}
use Rattle.flattener.specs.Small.{IsSmall}
use Rattle.segment_parts.specs.declared.columns.Columns.{Columns}
use Rattle.term_table.specs.Terms.{term_cmp}
use Rattle.term_table.specs.declared.rows.TermRow.{TermRow}
use Rattle.segment_merge.proofs.Cases.{split}

-- ---- values of a document

-- what holds of no values and of those of each row holds of those of a document
values_case : {X : Type 0} (P : List X → Type 0) (doc : ℕ) (rows : List (ℕ × List X)) → P [] → All (λ (row : ℕ × List X). P row.1) rows → P (values_of doc rows)
values_case P doc [] none all = none
values_case {X} P doc (row ∷ rows) none all =
    split (row.0 == doc)
    (λ is. rw is (All-head (λ (r : ℕ × List X). P r.1) row rows all))
    (λ isnt. rw isnt (values_case P doc rows none (All-tail (λ (r : ℕ × List X). P r.1) row rows all)))

nothing : {X : Type 0} (P : X → Type 0) → All P []
nothing P k d h = absurd (omega (arith, h))

abbrev value_pair : {X : Type 0} → ℕ → ℕ × List (ℕ × List X) → ℕ × List X
value_pair {X} doc column = (column.0, values_of doc column.1)

abbrev word_pair : ℕ → TermRow → (ℕ × List ℕ) × List ℕ
word_pair doc row = (row.term, values_of doc row.postings)

-- what holds of what each column says holds of what the document has
each_value : {X : Type 0} (P : ℕ × List X → Type 0) (doc : ℕ) (columns : List (ℕ × List (ℕ × List X))) → All (λ (column : ℕ × List (ℕ × List X)). P (value_pair doc column)) columns → All P (values_at doc columns)
each_value P doc columns all = All-filter has_some P (map (value_pair doc) columns) (All-map P (value_pair doc) columns all)

each_word : (P : (ℕ × List ℕ) × List ℕ → Type 0) (doc : ℕ) (rows : List TermRow) → All (λ (row : TermRow). P (word_pair doc row)) rows → All P (words_at doc rows)
each_word P doc rows all = All-filter has_some P (map (word_pair doc) rows) (All-map P (word_pair doc) rows all)

-- ---- keys ascend

sorted_cons : {K : Type 0} (cmp : K → K → Ordering) (x : K) (xs : List K) → AllByRecursion (λ y. cmp x y ≡ Less) xs → IsStrictlySortedBy cmp xs → IsStrictlySortedBy cmp (x ∷ xs)
unfolding IsStrictlySortedBy
sorted_cons cmp x xs first rest = (first, rest)

-- keys that are left ascend as all do
module _ {K A : Type 0} (cmp : K → K → Ordering) (key : A → K) (test : A → Bool) where
  behind_left : (k : K) (items : List A) → AllByRecursion (λ y. cmp k y ≡ Less) (map key items) → AllByRecursion (λ y. cmp k y ≡ Less) (map key (filter test items))
  behind_left k [] all = tt
  behind_left k (item ∷ items) all =
      split (test item)
      (λ is. rw is (all.0, behind_left k items all.1))
      (λ isnt. rw isnt (behind_left k items all.1))

  left_sorted : (items : List A) → IsStrictlySortedBy cmp (map key items) → IsStrictlySortedBy cmp (map key (filter test items))
  left_sorted [] up = up
  left_sorted (item ∷ items) up =
      let first = sorted_head cmp (key item) (map key items) up in
      let rest = left_sorted items (sorted_tail cmp (key item) (map key items) up) in
      split (test item)
      (λ is. rw is (sorted_cons cmp (key item) (map key (filter test items)) (behind_left (key item) items first) rest))
      (λ isnt. rw isnt rest)

same_keys : {A B K : Type 0} (key : B → K) (of : A → K) (f : A → B) → ((a : A) → key (f a) ≡ of a) → (items : List A) → map key (map f items) ≡ map of items
same_keys key of f same [] = refl
same_keys key of f same (item ∷ items) = rw (same item, same_keys key of f same items) refl

fields_sorted : (ns : List ℕ) → IsStrictlyIncreasing ns → IsStrictlySortedBy nat_cmp ns
fields_sorted ns up = sorted_from_all_adjacent nat_cmp_total ns 0 (λ k h. less (get_or ns k 0) (get_or ns (k + 1) 0) (up k h))
  where
    less : (a b : ℕ) → a < b → nat_cmp a b ≡ Less
    less a b h = grind (arith, nat_tests)

values_sorted : {X : Type 0} (doc : ℕ) (columns : List (ℕ × List (ℕ × List X))) → IsStrictlyIncreasing (fields columns) → IsStrictlySortedBy nat_cmp (map (λ (entry : ℕ × List X). entry.0) (values_at doc columns))
values_sorted {X} doc columns up =
    left_sorted nat_cmp (λ (entry : ℕ × List X). entry.0) has_some (map (value_pair doc) columns)
    (subst (IsStrictlySortedBy nat_cmp) (sym (same_keys (λ (entry : ℕ × List X). entry.0) (λ (column : ℕ × List (ℕ × List X)). column.0) (value_pair doc) (λ _. refl) columns)) (fields_sorted (fields columns) up))

-- ---- keywords ascend as their ordinals do

not_less : (o : Ordering) → o ≡ Equal → is_lt o ≡ false
not_less Less e = absurd (cc (e))
not_less Equal e = refl
not_less Greater e = refl

then_less : (a b : Ordering) → ordering_then a b ≡ Less → a ≡ Equal → b ≡ Less
then_less Less b h e = absurd (cc (e))
then_less Equal b h e = h
then_less Greater b h e = absurd (cc (e))

itself : (bytes : List ℕ) → slice_cmp nat_cmp bytes bytes ≡ Equal
itself [] = refl
itself (b ∷ bs) = let e : nat_cmp b b ≡ Equal = grind (arith, nat_tests) in rw (e, itself bs) refl

reversed : (a b : Ordering) → a ≡ ordering_reverse b → b ≡ Less → is_lt a ≡ false
reversed a b e less = rw e (rw less refl)

-- a later term of the same field isn't before an earlier one
later_term : (terms : List (ℕ × List ℕ)) (i j : ℕ) (one two : ℕ × List ℕ) → IsStrictlySortedBy term_cmp terms → slice_get terms i ≡ Some one → slice_get terms j ≡ Some two → i < j → term_cmp one two ≡ Less
later_term [] i j one two up at later before = absurd (cc (at))
later_term (t ∷ ts) zero zero one two up at later before = absurd (omega (arith, before))
later_term (t ∷ ts) zero (suc j) one two up at later before =
    let here : t ≡ one = cc (at) in
    subst (λ x. term_cmp x two ≡ Less) here (each_at ts j (sorted_head term_cmp t ts up) later)
  where
    each_at : (xs : List (ℕ × List ℕ)) (k : ℕ) → AllByRecursion (λ y. term_cmp t y ≡ Less) xs → slice_get xs k ≡ Some two → term_cmp t two ≡ Less
    each_at [] k all is = absurd (cc (is))
    each_at (x ∷ xs) zero all is = let same : x ≡ two = cc (is) in subst (λ y. term_cmp t y ≡ Less) same all.0
    each_at (x ∷ xs) (suc k) all is = each_at xs k all.1 is
later_term (t ∷ ts) (suc i) zero one two up at later before = absurd (omega (arith, before))
later_term (t ∷ ts) (suc i) (suc j) one two up at later before = later_term ts i j one two (sorted_tail term_cmp t ts up) at later (omega (arith, before))

-- an ordinal of a field
pub record IsOf (terms : List (ℕ × List ℕ)) (field ordinal : ℕ) : Type 0 where
  pub bytes : List ℕ
  pub is : slice_get terms ordinal ≡ Some (field, bytes)

of_field : (terms : List (ℕ × List ℕ)) (field ordinal : ℕ) → IsSomeAnd (slice_get terms ordinal) (λ (term : ℕ × List ℕ). term.0 ≡ field) → IsOf terms field ordinal
of_field terms field ordinal some = found (slice_get terms ordinal) refl some
  where
    found : (o : Option (ℕ × List ℕ)) → slice_get terms ordinal ≡ o → IsSomeAnd o (λ (term : ℕ × List ℕ). term.0 ≡ field) → IsOf terms field ordinal
    found None at is = absurd is
    found (Some term) at is = record { bytes = term.1; is = at ∙ ap (λ f. let t : ℕ × List ℕ = (f, term.1) in Some t) is }

bytes_are : (terms : List (ℕ × List ℕ)) (field ordinal : ℕ) (own : IsOf terms field ordinal) → bytes_at terms ordinal ≡ own.bytes
bytes_are terms field ordinal own = ap (λ (term : ℕ × List ℕ). term.1) (get_or_from_slice_get terms ordinal (field, own.bytes) (0, []) own.is)

not_before : (terms : List (ℕ × List ℕ)) (field i j : ℕ) → IsStrictlySortedBy term_cmp terms → IsOf terms field i → IsOf terms field j → i ≤ j → is_lt (slice_cmp nat_cmp (bytes_at terms j) (bytes_at terms i)) ≡ false
not_before terms field i j up one two order =
    split (i == j)
    (λ is. let same : i ≡ j = eqb-true i j is in subst (λ k. is_lt (slice_cmp nat_cmp (bytes_at terms k) (bytes_at terms i)) ≡ false) same (not_less (slice_cmp nat_cmp (bytes_at terms i) (bytes_at terms i)) (itself (bytes_at terms i))))
    (λ isnt.
    let apart : i ≡ j → ⊥ = λ e. (let no : true ≡ false = sym (eq-eqb i j e) ∙ isnt in cc (no)) in
    let less : term_cmp (field, one.bytes) (field, two.bytes) ≡ Less = later_term terms i j (field, one.bytes) (field, two.bytes) up one.is two.is (omega (arith, order, apart)) in
    let e : nat_cmp field field ≡ Equal = grind (arith, nat_tests) in
    let bytes : slice_cmp nat_cmp one.bytes two.bytes ≡ Less = then_less (nat_cmp field field) (slice_cmp nat_cmp one.bytes two.bytes) less e in
    rw (bytes_are terms field i one, bytes_are terms field j two) (reversed (slice_cmp nat_cmp two.bytes one.bytes) (slice_cmp nat_cmp one.bytes two.bytes) (nat_list_cmp_total.antisymm two.bytes one.bytes) bytes))

up_to : (a b : ℕ) → is_lt (nat_cmp b a) ≡ false → a ≤ b
up_to a b h = grind (arith, nat_tests)

keywords_sorted : (terms : List (ℕ × List ℕ)) (field : ℕ) (ordinals : List ℕ) → IsStrictlySortedBy term_cmp terms → All (IsOf terms field) ordinals → IsSorted nat_cmp ordinals → IsSorted (slice_cmp nat_cmp) (map (bytes_at terms) ordinals)
keywords_sorted terms field ordinals up all rise k d low h =
    let long : length (map (bytes_at terms) ordinals) ≡ length ordinals = length-map ordinals (bytes_at terms) in
    let one = get_or-map (bytes_at terms) ordinals k 0 d (omega (arith, h, long)) in
    let two = get_or-map (bytes_at terms) ordinals (k + 1) 0 d (omega (arith, h, long)) in
    rw (one, two)
    (not_before terms field (get_or ordinals k 0) (get_or ordinals (k + 1) 0) up (all k 0 (omega (arith, h, long))) (all (k + 1) 0 (omega (arith, h, long)))
    (up_to (get_or ordinals k 0) (get_or ordinals (k + 1) 0) (rise k 0 low (omega (arith, h, long)))))

-- ---- words stand in documents that have a value of their field

-- what holds of each that passes holds of those that are left
left_pass : {X : Type 0} (test : X → Bool) (P : X → Type 0) (xs : List X) → All (λ (x : X). test x ≡ true → P x) xs → All P (filter test xs)
left_pass test P xs all k d h = All-filter test (λ x. test x ≡ true → P x) xs all k d h (filter_passes test xs k d h)

flagged : (flags : List Bool) (doc : ℕ) (postings : List (ℕ × List ℕ)) → All (IsWordAt flags) postings → nat_lt 0 (length (values_of doc postings)) ≡ true → get_or flags doc false ≡ true
flagged flags doc [] all some = absurd (cc (some))
flagged flags doc (posting ∷ postings) all some =
    split (posting.0 == doc)
    (λ is. subst (λ d. get_or flags d false ≡ true) (eqb-true posting.0 doc is) (All-head (IsWordAt flags) posting postings all).valued)
    (λ isnt. flagged flags doc postings (All-tail (IsWordAt flags) posting postings all) (rw isnt at some))

none_posted : (doc : ℕ) (postings : List (ℕ × List ℕ)) → All (λ (posting : ℕ × List ℕ). length posting.1 ≡ 0) postings → nat_lt 0 (length (values_of doc postings)) ≡ true → ⊥
none_posted doc postings all some =
    let none : length (values_of doc postings) ≡ 0 = values_case (λ vs. length vs ≡ 0) doc postings refl all in
    let some_are : 0 < length (values_of doc postings) = ltb-true 0 (length (values_of doc postings)) some in
    omega (arith, none, some_are)

abbrev HasFlag : ℕ → Option (List Bool) → Type 0
HasFlag doc None = ⊥
HasFlag doc (Some flags) = get_or flags doc false ≡ true

word_flagged : (present : Option (List Bool)) (rows : Option (List (ℕ × List ℕ))) (numbers : Option (List (ℕ × List ℤ))) (ordinal doc : ℕ) (bytes : List ℕ) (postings : List (ℕ × List ℕ))
    → IsTermOf present rows numbers ordinal bytes postings → nat_lt 0 (length (values_of doc postings)) ≡ true → HasFlag doc present
word_flagged (Some flags) rows numbers ordinal doc bytes postings is some = flagged flags doc postings is some
word_flagged None (Some rows) numbers ordinal doc bytes postings is some = absurd (none_posted doc postings (λ k d h. (is k d h).positions) some)
word_flagged None None (Some numbers) ordinal doc bytes postings is some = absurd (none_posted doc postings (λ k d h. (is k d h).positions) some)
word_flagged None None None ordinal doc bytes postings is some = absurd is

contains_later : (x y : ℕ) (xs : List ℕ) → Contains xs x → Contains (y ∷ xs) x
contains_later x y xs there = (suc there.0, omega (arith, there.1), there.2)

abbrev pub texts_at : ℕ → List (ℕ × List Bool) → List ℕ
texts_at doc columns = map (λ (column : ℕ × List Bool). column.0) (filter (λ (column : ℕ × List Bool). get_or column.1 doc false) columns)

text_there : (field doc : ℕ) (columns : List (ℕ × List Bool)) → HasFlag doc (column_of field columns) → Contains (texts_at doc columns) field
text_there field doc [] has = absurd has
text_there field doc (column ∷ columns) has =
    split (column.0 == field)
    (λ is.
    let flag : get_or column.1 doc false ≡ true = rw is at has in
    let same : column.0 ≡ field = eqb-true column.0 field is in
    rw flag (0, omega arith, same))
    (λ isnt.
    let rest : Contains (texts_at doc columns) field = text_there field doc columns (rw isnt at has) in
    split (get_or column.1 doc false)
    (λ flag. rw flag (contains_later field column.0 (texts_at doc columns) rest))
    (λ other. rw other rest))

-- ---- a document

-- what the values of a document are
record AreNumbers (values : List ℤ) : Type 0 where
  pub fewer : length values < 2 ^ 32
  pub rise : IsSorted int_cmp values
  pub fit : All (FitsSigned w64) values

record AreOrdinalsOf (terms : List (ℕ × List ℕ)) (field : ℕ) (values : List ℕ) : Type 0 where
  pub fewer : length values < 2 ^ 32
  pub rise : IsSorted nat_cmp values
  pub of : All (IsOf terms field) values

record ArePlaces (positions : List ℕ) : Type 0 where
  pub fewer : length positions < 2 ^ 32
  pub rise : IsStrictlyIncreasing positions
  pub fit : All (λ position. position < 2 ^ 32) positions

module _ (columns : Columns) (own : AreColumns columns) (doc : ℕ) where
  abbrev terms : List (ℕ × List ℕ)
  terms = terms_of columns

  abbrev named : ℕ × List ℕ → ℕ × List (List ℕ)
  named pair = (pair.0, map (bytes_at terms) pair.1)

  numbers_are : All (λ (column : ℕ × List (ℕ × List ℤ)). AreNumbers (values_of doc column.1)) columns.numbers
  numbers_are k d h =
      let entries = (own.parts.numbers_are.each k d h).entries in
      values_case AreNumbers doc (get_or columns.numbers k d).1 (record { fewer = omega arith; rise = λ i e low inside. absurd (omega (arith, inside)); fit = nothing (FitsSigned w64) })
      (λ i e inside. record { fewer = (entries.rows_are.valued i e inside).fewer; rise = (entries.rows_are.valued i e inside).ascending; fit = entries.fit i e inside })

  ordinals_are : All (λ (column : ℕ × List (ℕ × List ℕ)). AreOrdinalsOf terms column.0 (values_of doc column.1)) columns.ordinals
  ordinals_are k d h =
      let entries = (own.parts.ordinals_are.each k d h).entries in
      let column : ℕ × List (ℕ × List ℕ) = get_or columns.ordinals k d in
      values_case (AreOrdinalsOf terms column.0) doc column.1 (record { fewer = omega arith; rise = λ i e low inside. absurd (omega (arith, inside)); of = nothing (IsOf terms column.0) })
      (λ i e inside. record {
        fewer = (entries.rows_are.valued i e inside).fewer;
        rise = (entries.rows_are.valued i e inside).ascending;
        of = λ j f there. of_field terms column.0 (get_or (get_or column.1 i e).1 j f) (own.terms.ordinals k d h i e inside j f there).of_field;
      })

  positions_are : All (λ (row : TermRow). ArePlaces (values_of doc row.postings)) columns.terms
  positions_are k d h =
      let positions = (own.parts.terms_are.rows_are k d h).postings_are.positions_are in
      values_case ArePlaces doc (get_or columns.terms k d).postings (record { fewer = omega arith; rise = λ i inside. absurd (omega (arith, inside)); fit = nothing (λ position. position < 2 ^ 32) })
      (λ i e inside. record { fewer = (positions i e inside).fewer; rise = (positions i e inside).ascending; fit = (positions i e inside).fit })

  -- the term of a row
  term_here : (k : ℕ) (d : TermRow) → k < length columns.terms → slice_get terms k ≡ Some (get_or columns.terms k d).term
  term_here k d h =
      slice_get-get_or terms k (get_or columns.terms k d).term (omega (arith, h, length-map columns.terms (λ (row : TermRow). row.term)))
      ∙ ap Some (get_or-map (λ (row : TermRow). row.term) columns.terms k d (get_or columns.terms k d).term h)

  words_valued : All (λ (row : TermRow). has_some (word_pair doc row) ≡ true → Contains (texts_at doc columns.present) row.term.0) columns.terms
  words_valued k d h some =
      let row : TermRow = get_or columns.terms k d in
      let is = (own.terms.terms k row.term (term_here k d h)).is in
      let here : get_or (postings_of columns) k [] ≡ row.postings = get_or-map (λ (r : TermRow). r.postings) columns.terms k d [] h in
      text_there row.term.0 doc columns.present
      (word_flagged (column_of row.term.0 columns.present) (column_of row.term.0 columns.ordinals) (column_of row.term.0 columns.numbers) k doc row.term.1 row.postings
      (subst (IsTermOf (column_of row.term.0 columns.present) (column_of row.term.0 columns.ordinals) (column_of row.term.0 columns.numbers) k row.term.1) here is) some)

  short : (field ordinal : ℕ) → IsOf terms field ordinal → length (bytes_at terms ordinal) ≤ 32766
  short field ordinal of = omega (arith, ap length (bytes_are terms field ordinal of), (own.terms.terms ordinal (field, of.bytes) of.is).short)

  pub ordered : IsOrdered (flat_of columns doc)
  ordered = record {
    numbers = record { ascending = values_sorted doc columns.numbers own.parts.numbers_are.ascending; some = filter_passes has_some (map (value_pair doc) columns.numbers) };
    keywords = record {
      ascending =
          subst (IsStrictlySortedBy nat_cmp) (sym (same_keys (λ (entry : ℕ × List (List ℕ)). entry.0) (λ (entry : ℕ × List ℕ). entry.0) named (λ _. refl) (values_at doc columns.ordinals)))
          (values_sorted doc columns.ordinals own.parts.ordinals_are.ascending);
      some =
          All-map (λ (entry : ℕ × List (List ℕ)). has_some entry ≡ true) named (values_at doc columns.ordinals)
          (λ k d h. ap (nat_lt 0) (length-map (get_or (values_at doc columns.ordinals) k d).1 (bytes_at terms)) ∙ filter_passes has_some (map (value_pair doc) columns.ordinals) k d h);
    };
    words = record {
      ascending =
          left_sorted term_cmp (λ (word : (ℕ × List ℕ) × List ℕ). word.0) has_some (map (word_pair doc) columns.terms)
          (subst (IsStrictlySortedBy term_cmp) (sym (same_keys (λ (word : (ℕ × List ℕ) × List ℕ). word.0) (λ (row : TermRow). row.term) (word_pair doc) (λ _. refl) columns.terms)) own.parts.terms_are.ascending);
      some = filter_passes has_some (map (word_pair doc) columns.terms);
    };
    texts = left_sorted nat_cmp (λ (column : ℕ × List Bool). column.0) (λ (column : ℕ × List Bool). get_or column.1 doc false) columns.present (fields_sorted (fields columns.present) own.parts.present_are.ascending);
    numbers_rise = each_value (λ (entry : ℕ × List ℤ). IsSorted int_cmp entry.1) doc columns.numbers (λ k d h. (numbers_are k d h).rise);
    keywords_rise =
        All-map (λ (entry : ℕ × List (List ℕ)). IsSorted (slice_cmp nat_cmp) entry.1) named (values_at doc columns.ordinals)
        (each_value (λ (entry : ℕ × List ℕ). IsSorted (slice_cmp nat_cmp) (map (bytes_at terms) entry.1)) doc columns.ordinals
        (λ k d h. keywords_sorted terms (get_or columns.ordinals k d).0 (values_of doc (get_or columns.ordinals k d).1) own.parts.terms_are.ascending (ordinals_are k d h).of (ordinals_are k d h).rise));
    positions_rise = each_word (λ (word : (ℕ × List ℕ) × List ℕ). IsStrictlyIncreasing word.1) doc columns.terms (λ k d h. (positions_are k d h).rise);
    valued =
        left_pass has_some (λ (word : (ℕ × List ℕ) × List ℕ). Contains (texts_at doc columns.present) word.0.0) (map (word_pair doc) columns.terms)
        (All-map (λ (word : (ℕ × List ℕ) × List ℕ). has_some word ≡ true → Contains (texts_at doc columns.present) word.0.0) (word_pair doc) columns.terms words_valued);
  }

  pub small : IsSmall (flat_of columns doc)
  small = record {
    numbers = each_value (λ (entry : ℕ × List ℤ). length entry.1 < 2 ^ 32) doc columns.numbers (λ k d h. (numbers_are k d h).fewer);
    keywords =
        All-map (λ (entry : ℕ × List (List ℕ)). (length entry.1 < 2 ^ 32) × All (λ (bytes : List ℕ). length bytes ≤ 32766) entry.1) named (values_at doc columns.ordinals)
        (each_value (λ (entry : ℕ × List ℕ). (length (map (bytes_at terms) entry.1) < 2 ^ 32) × All (λ (bytes : List ℕ). length bytes ≤ 32766) (map (bytes_at terms) entry.1)) doc columns.ordinals
        (λ k d h. (
          omega (arith, length-map (values_of doc (get_or columns.ordinals k d).1) (bytes_at terms), (ordinals_are k d h).fewer),
          All-map (λ (bytes : List ℕ). length bytes ≤ 32766) (bytes_at terms) (values_of doc (get_or columns.ordinals k d).1) (λ i e inside. short (get_or columns.ordinals k d).0 (get_or (values_of doc (get_or columns.ordinals k d).1) i e) ((ordinals_are k d h).of i e inside)),
        )));
    words =
        each_word (λ (word : (ℕ × List ℕ) × List ℕ). (length word.0.1 ≤ 32766) × (length word.1 < 2 ^ 32)) doc columns.terms
        (λ k d h. ((own.terms.terms k (get_or columns.terms k d).term (term_here k d h)).short, (positions_are k d h).fewer));
  }

  pub fit : IsFit (flat_of columns doc)
  fit = record {
    numbers = each_value (λ (entry : ℕ × List ℤ). All (FitsSigned w64) entry.1) doc columns.numbers (λ k d h. (numbers_are k d h).fit);
    positions = each_word (λ (word : (ℕ × List ℕ) × List ℕ). All (λ position. position < 2 ^ 32) word.1) doc columns.terms (λ k d h. (positions_are k d h).fit);
  }

-- ordinals are of terms that are there
pub ordinals_within : (terms : List (ℕ × List ℕ)) (postings : List (List (ℕ × List ℕ))) (column : ℕ × List (ℕ × List ℕ)) → HaveOrdinals terms postings column → All (λ (row : ℕ × List ℕ). All (λ ordinal. ordinal < length terms) row.1) column.1
ordinals_within terms postings column have k d h i e inside =
    let ordinal : ℕ = get_or (get_or column.1 k d).1 i e in
    let own : IsOf terms column.0 ordinal = of_field terms column.0 ordinal (have k d h i e inside).of_field in
    slice_get_within terms ordinal (column.0, own.bytes) own.is
