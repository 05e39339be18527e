-- Documents counted by the rows of a column: those of the rows whose documents are marked.
use Rattle.std.proofs.Common.{◌≡◌, ℕ, zero, suc, ◌+◌, ◌==◌, ◌<◌, ◌≤◌, Bool, true, false, ◌&&◌, cond, List, [], ◌∷◌, length, map, drop, get_or, slice_get, Some, count_by, sum_by, refl, sym, ap, ◌∙◌, arith}
use Rattle.std.specs.List.{flat_map}
use Rattle.std.specs.List.Sorted.{IsStrictlyIncreasing}
use Rattle.std.proofs.lemmas.Bool.{eq-eqb, eqb-true, ne_eqb}
use Rattle.std.proofs.lemmas.List.{get_or-map}
use Rattle.std.proofs.lemmas.List.Sums.{sum_by-append, sum_by-cons, sum_by-drop_more}
use Rattle.std.proofs.lemmas.Option.{get_or_from_slice_get}
use Rattle.doc_values.specs.Values.{documents, values_of}
use Rattle.segment_parts.specs.Text.{marked_places}
use Rattle.query_ast.proofs.Elements.{Each, by_test, each_as}

-- ---- sums and counts

module _ {A : Type 0} where
  pub sum_two : (f g h : A → ℕ) → ((x : A) → f x ≡ g x + h x) → (xs : List A) → sum_by f xs ≡ sum_by g xs + sum_by h xs
  sum_two f g h is [] = refl
  sum_two f g h is (x ∷ xs) = omega (arith, is x, sum_two f g h is xs, sum_by-cons f x xs, sum_by-cons g x xs, sum_by-cons h x xs)

  pub sum_same : (f g : A → ℕ) → ((x : A) → f x ≡ g x) → (xs : List A) → sum_by f xs ≡ sum_by g xs
  sum_same f g is [] = refl
  sum_same f g is (x ∷ xs) = omega (arith, is x, sum_same f g is xs, sum_by-cons f x xs, sum_by-cons g x xs)

  abbrev pub one_if : (A → Bool) → A → ℕ
  one_if test x = cond (test x) 1 0

  pub count_cons : (test : A → Bool) (x : A) (xs : List A) → count_by test (x ∷ xs) ≡ one_if test x + count_by test xs
  count_cons test x xs = sum_by-cons (one_if test) x xs

  pub count_same : (one other : A → Bool) → ((x : A) → one x ≡ other x) → (xs : List A) → count_by one xs ≡ count_by other xs
  count_same one other same xs = sum_same (one_if one) (one_if other) (λ x. ap (λ (b : Bool). cond {A = ℕ} b 1 0) (same x)) xs

  pub count_alike : (one other : A → Bool) (xs : List A) → Each (λ (x : A). one x ≡ other x) xs → count_by one xs ≡ count_by other xs
  count_alike one other [] h = refl
  count_alike one other (x ∷ xs) h =
      omega (arith, count_cons one x xs, count_cons other x xs, ap (λ (b : Bool). cond {A = ℕ} b 1 0) h.0, count_alike one other xs h.1)

  pub count_never : (test : A → Bool) → ((x : A) → test x ≡ false) → (xs : List A) → count_by test xs ≡ 0
  count_never test never [] = refl
  count_never test never (x ∷ xs) = omega (arith, count_cons test x xs, ap (λ (b : Bool). cond {A = ℕ} b 1 0) (never x), count_never test never xs)

  pub count_none : (test : A → Bool) (xs : List A) → Each (λ (x : A). test x ≡ false) xs → count_by test xs ≡ 0
  count_none test [] h = refl
  count_none test (x ∷ xs) h = omega (arith, count_cons test x xs, ap (λ (b : Bool). cond {A = ℕ} b 1 0) h.0, count_none test xs h.1)

pub sum_mapped : {A B : Type 0} (f : B → ℕ) (g : A → B) (xs : List A) → sum_by f (map g xs) ≡ sum_by (λ x. f (g x)) xs
sum_mapped f g [] = refl
sum_mapped f g (x ∷ xs) = omega (arith, sum_by-cons f (g x) (map g xs), sum_by-cons (λ x. f (g x)) x xs, sum_mapped f g xs)

pub sum_never : {A : Type 0} (f : A → ℕ) → ((x : A) → f x ≡ 0) → (xs : List A) → sum_by f xs ≡ 0
sum_never f never [] = refl
sum_never f never (x ∷ xs) = omega (arith, sum_by-cons f x xs, never x, sum_never f never xs)

pub count_mapped : {A B : Type 0} (test : B → Bool) (f : A → B) (xs : List A) → count_by test (map f xs) ≡ count_by (λ x. test (f x)) xs
count_mapped test f [] = refl
count_mapped test f (x ∷ xs) = omega (arith, count_cons test (f x) (map f xs), count_cons (λ x. test (f x)) x xs, count_mapped test f xs)

pub count_flat : {A B : Type 0} (test : B → Bool) (f : A → List B) (xs : List A) → count_by test (flat_map f xs) ≡ sum_by (λ x. count_by test (f x)) xs
count_flat test f [] = refl
count_flat test f (x ∷ xs) =
    omega (arith, sum_by-append (one_if test) (f x) (flat_map f xs), sum_by-cons (λ x. count_by test (f x)) x xs, count_flat test f xs)

-- ---- a document among those that are marked

module _ (d : ℕ) (b : Bool) where
  abbrev is_it : ℕ → Bool
  is_it doc = (d == doc) && b

  none_past : (start : ℕ) (flags : List Bool) → d < start → count_by is_it (marked_places start flags) ≡ 0
  none_past start [] past = refl
  none_past start (false ∷ flags) past = none_past (start + 1) flags (omega (arith, past))
  none_past start (true ∷ flags) past =
      let other : (d == start) ≡ false = ne_eqb d start (λ same. omega (arith, past, same)) in
      omega (arith, count_cons is_it start (marked_places (start + 1) flags), ap (λ (t : Bool). cond {A = ℕ} (t && b) 1 0) other, none_past (start + 1) flags (omega (arith, past)))

  one_marked : (k start : ℕ) (flags : List Bool) → d ≡ start + k → count_by is_it (marked_places start flags) ≡ cond (get_or flags k false && b) 1 0
  one_marked k start [] is = refl
  one_marked zero start (false ∷ flags) is = none_past (start + 1) flags (omega (arith, is))
  one_marked zero start (true ∷ flags) is =
      let same : (d == start) ≡ true = eq-eqb d start (omega (arith, is)) in
      omega (arith, count_cons is_it start (marked_places (start + 1) flags), ap (λ (t : Bool). cond {A = ℕ} (t && b) 1 0) same, none_past (start + 1) flags (omega (arith, is)))
  one_marked (suc k) start (false ∷ flags) is = one_marked k (start + 1) flags (omega (arith, is))
  one_marked (suc k) start (true ∷ flags) is =
      let other : (d == start) ≡ false = ne_eqb d start (λ same. omega (arith, is, same)) in
      omega (arith, count_cons is_it start (marked_places (start + 1) flags), ap (λ (t : Bool). cond {A = ℕ} (t && b) 1 0) other, one_marked k (start + 1) flags (omega (arith, is)))

-- ---- rows by ascending document

abbrev pub ColumnRows : Type 0
ColumnRows = List (ℕ × List ℕ)

abbrev pub Ascending : ColumnRows → Type 0
Ascending [] = Unit {0}
Ascending (row ∷ rows) = Each (λ (later : ℕ × List ℕ). row.0 < later.0) rows × Ascending rows

first_below : (d : ℕ) (rows : ColumnRows) → IsStrictlyIncreasing (d ∷ documents rows) → Each (λ (later : ℕ × List ℕ). d < later.0) rows
first_below d [] up = tt
first_below d (row ∷ rows) up =
    let here : d < row.0 = up 0 (omega arith) in
    (here, each_as (λ (later : ℕ × List ℕ). row.0 < later.0) (λ (later : ℕ × List ℕ). d < later.0) (λ later less. omega (arith, here, less)) rows (first_below row.0 rows (λ k low. let next : suc k + 1 ≡ suc (k + 1) = omega arith in rw next at (up (suc k) (omega (arith, low))))))

pub rows_ascend : (rows : ColumnRows) → IsStrictlyIncreasing (documents rows) → Ascending rows
rows_ascend [] up = tt
rows_ascend (row ∷ rows) up = (first_below row.0 rows up, rows_ascend rows (λ k low. let next : suc k + 1 ≡ suc (k + 1) = omega arith in rw next at (up (suc k) (omega (arith, low)))))

no_row : (d : ℕ) (rows : ColumnRows) → Each (λ (later : ℕ × List ℕ). d < later.0) rows → values_of d rows ≡ []
no_row d [] h = refl
no_row d (row ∷ rows) h = let other : (row.0 == d) ≡ false = ne_eqb row.0 d (λ same. omega (arith, h.0, same)) in rw other (no_row d rows h.1)

module _ (test : List ℕ → Bool) (none : test [] ≡ false) (flags : List Bool) where
  -- a row whose document is marked, and whose values pass
  abbrev pub row_counts : ℕ × List ℕ → Bool
  row_counts row = get_or flags row.0 false && test row.1

  one_row : (row : ℕ × List ℕ) (rows : ColumnRows) → Each (λ (later : ℕ × List ℕ). row.0 < later.0) rows → (doc : ℕ)
      → cond {A = ℕ} (test (values_of doc (row ∷ rows))) 1 0 ≡ cond ((row.0 == doc) && test row.1) 1 0 + cond (test (values_of doc rows)) 1 0
  one_row row rows first doc =
      by_test (row.0 == doc)
      (λ held.
      let same : row.0 ≡ doc = eqb-true row.0 doc held in
      let absent : test (values_of doc rows) ≡ false = ap (λ (d : ℕ). test (values_of d rows)) (sym same) ∙ ap test (no_row row.0 rows first) ∙ none in
      rw (held, absent) (omega arith))
      (λ failed. rw failed (omega arith))

  pub rows_counted : (rows : ColumnRows) → Ascending rows → count_by (λ doc. test (values_of doc rows)) (marked_places 0 flags) ≡ count_by row_counts rows
  rows_counted [] up = count_never (λ doc. test []) (λ doc. none) (marked_places 0 flags)
  rows_counted (row ∷ rows) up =
      omega (
        arith,
        sum_two (λ doc. cond {A = ℕ} (test (values_of doc (row ∷ rows))) 1 0) (λ doc. cond {A = ℕ} ((row.0 == doc) && test row.1) 1 0) (λ doc. cond {A = ℕ} (test (values_of doc rows)) 1 0) (one_row row rows up.0) (marked_places 0 flags),
        one_marked row.0 (test row.1) row.0 0 flags (omega arith),
        count_cons row_counts row rows,
        rows_counted rows up.1,
      )

  -- ---- row by row

  row_at : (rows : ColumnRows) (row doc : ℕ) (values : List ℕ) → row < length rows → doc ≡ get_or (documents rows) row 0 → slice_get rows row ≡ Some (get_or (documents rows) row 0, values)
      → count_by row_counts (drop row rows) ≡ cond (get_or flags doc false && test values) 1 0 + count_by row_counts (drop (row + 1) rows)
  row_at rows row doc values low at is =
      let x : ℕ × List ℕ = (get_or (documents rows) row 0, values) in
      let here : get_or rows row x ≡ x = get_or_from_slice_get rows row x x is in
      omega (
        arith,
        sum_by-drop_more (one_if row_counts) rows row x low,
        ap (one_if row_counts) here,
        ap (λ (d : ℕ). cond {A = ℕ} (get_or flags d false && test values) 1 0) at,
      )

  pub row_on : (rows : ColumnRows) (row doc : ℕ) (values : List ℕ) → row < length rows → doc ≡ get_or (documents rows) row 0 → slice_get rows row ≡ Some (get_or (documents rows) row 0, values) → get_or flags doc false ≡ true
      → count_by row_counts (drop row rows) ≡ cond (test values) 1 0 + count_by row_counts (drop (row + 1) rows)
  row_on rows row doc values low at is held =
      row_at rows row doc values low at is ∙ ap (λ (b : Bool). cond {A = ℕ} (b && test values) 1 0 + count_by row_counts (drop (row + 1) rows)) held

  pub row_off : (rows : ColumnRows) (row doc : ℕ) → row < length rows → doc ≡ get_or (documents rows) row 0 → get_or flags doc false ≡ false → count_by row_counts (drop row rows) ≡ count_by row_counts (drop (row + 1) rows)
  row_off rows row doc low at failed =
      let d : ℕ × List ℕ = (0, []) in
      let own : get_or (documents rows) row 0 ≡ (get_or rows row d).0 = get_or-map (λ (x : ℕ × List ℕ). x.0) rows row d 0 low in
      let none : get_or flags (get_or rows row d).0 false ≡ false = ap (λ (k : ℕ). get_or flags k false) (sym (at ∙ own)) ∙ failed in
      omega (
        arith,
        sum_by-drop_more (one_if row_counts) rows row d low,
        ap (λ (b : Bool). cond {A = ℕ} (b && test (get_or rows row d).1) 1 0) none,
      )

  pub rows_end : (rows : ColumnRows) (row : ℕ) → length rows ≤ row → count_by row_counts (drop row rows) ≡ 0
  rows_end rows row past = ap (count_by row_counts) (none_left rows row past)
    where
      none_left : (rows : ColumnRows) (row : ℕ) → length rows ≤ row → drop row rows ≡ []
      none_left [] zero past = refl
      none_left [] (suc row) past = refl
      none_left (x ∷ rows) zero past = absurd (omega (arith, past))
      none_left (x ∷ rows) (suc row) past = none_left rows row (omega (arith, past))
