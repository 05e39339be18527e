-- What the marked documents have, row by row.
use Rattle.std.proofs.Common.{◌≡◌, ℕ, zero, suc, ◌+◌, ◌-◌, ◌==◌, ◌<◌, ◌≤◌, Bool, true, false, cond, List, [], ◌∷◌, ◌++◌, length, drop, get_or, slice_get, sum_by, Some, refl, sym, ap, ◌∙◌, arith}
use Rattle.std.specs.List.{All, flat_map}
use Rattle.std.specs.List.Sorted.{IsStrictlyIncreasing}
use Rattle.std.proofs.lemmas.Bool.{eqb-false, eqb-true, ne_eqb}
use Rattle.std.proofs.lemmas.List.{get_or-map, length-append, length-map}
use Rattle.std.proofs.lemmas.List.Sums.{sum_by-cons}
use Rattle.std.proofs.lemmas.Option.{get_or_from_slice_get, same_Some}
use Rattle.doc_values.specs.Values.{documents, values_of}
use Rattle.segment_parts.specs.Text.{marked_places}
use Rattle.query_ast.proofs.Elements.{Each, by_test, each_as}

abbrev pub RowsOf : Type 0 → Type 0
RowsOf A = List (ℕ × List A)

module _ {A : Type 0} where
  abbrev pub Behind : ℕ → RowsOf A → Type 0
  Behind start rows = Each (λ (row : ℕ × List A). start ≤ row.0) rows

  abbrev pub Ascend : RowsOf A → Type 0
  Ascend [] = Unit {0}
  Ascend (row ∷ rows) = Behind (suc row.0) rows × Ascend rows

  -- the values of a row whose document is marked, where the first mark is that of document `start`
  abbrev pub told : List Bool → ℕ → ℕ × List A → List A
  told flags start row = cond (get_or flags (row.0 - start) false) row.1 []

  none_of : (start doc : ℕ) (rows : RowsOf A) → doc < start → Behind start rows → values_of doc rows ≡ []
  none_of start doc [] low behind = refl
  none_of start doc (row ∷ rows) low behind =
      let other : (row.0 == doc) ≡ false = ne_eqb row.0 doc (λ same. omega (arith, low, same, behind.0)) in
      rw other (none_of start doc rows low behind.1)

  none_told : (start : ℕ) (rows : RowsOf A) → flat_map (told [] start) rows ≡ []
  none_told start [] = refl
  none_told start (row ∷ rows) = none_told start rows

  nothing_told : (start : ℕ) (flags : List Bool) → flat_map (λ doc. values_of {X = A} doc []) (marked_places start flags) ≡ []
  nothing_told start [] = refl
  nothing_told start (true ∷ flags) = nothing_told (start + 1) flags
  nothing_told start (false ∷ flags) = nothing_told (start + 1) flags

  -- behind the first document its mark says nothing
  told_on : (flag : Bool) (flags : List Bool) (start : ℕ) (rows : RowsOf A) → Behind (suc start) rows → flat_map (told (flag ∷ flags) start) rows ≡ flat_map (told flags (start + 1)) rows
  told_on flag flags start [] behind = refl
  told_on flag flags start (row ∷ rows) behind =
      let step : row.0 - start ≡ suc (row.0 - (start + 1)) = omega (arith, behind.0) in
      rw step (ap (λ (l : List A). cond (get_or flags (row.0 - (start + 1)) false) row.1 [] ++ l) (told_on flag flags start rows behind.1))

  behind_on : (start : ℕ) (rows : RowsOf A) → Behind (suc start) rows → Behind (start + 1) rows
  behind_on start rows = each_as (λ (row : ℕ × List A). suc start ≤ row.0) (λ (row : ℕ × List A). start + 1 ≤ row.0) (λ row h. omega (arith, h)) rows

  -- what is had at marked places, the first apart
  first_marked : (f : ℕ → List A) (flag : Bool) (flags : List Bool) (start : ℕ) → flat_map f (marked_places start (flag ∷ flags)) ≡ cond flag (f start) [] ++ flat_map f (marked_places (start + 1) flags)
  first_marked f true flags start = refl
  first_marked f false flags start = refl

  row_passed : (row : ℕ × List A) (rows : RowsOf A) (start : ℕ) (flags : List Bool) → row.0 < start → flat_map (λ doc. values_of doc (row ∷ rows)) (marked_places start flags) ≡ flat_map (λ doc. values_of doc rows) (marked_places start flags)
  row_passed row rows start [] low = refl
  row_passed row rows start (flag ∷ flags) low =
      let other : (row.0 == start) ≡ false = ne_eqb row.0 start (λ same. omega (arith, low, same)) in
      first_marked (λ doc. values_of doc (row ∷ rows)) flag flags start
      ∙ ap (λ (b : Bool). cond flag (cond b row.1 (values_of start rows)) [] ++ flat_map (λ doc. values_of doc (row ∷ rows)) (marked_places (start + 1) flags)) other
      ∙ ap (λ (l : List A). cond flag (values_of start rows) [] ++ l) (row_passed row rows (start + 1) flags (omega (arith, low)))
      ∙ sym (first_marked (λ doc. values_of doc rows) flag flags start)

  nothing : (flag : Bool) (xs : List A) → cond {A = List A} flag [] [] ++ xs ≡ xs
  nothing true xs = refl
  nothing false xs = refl

  -- the values of the marked documents are those of the rows whose documents are marked
  marked_told : (flags : List Bool) (start : ℕ) (rows : RowsOf A) → Behind start rows → Ascend rows → flat_map (λ doc. values_of doc rows) (marked_places start flags) ≡ flat_map (told flags start) rows
  marked_told [] start rows behind up = sym (none_told start rows)
  marked_told (flag ∷ flags) start [] behind up = nothing_told start (flag ∷ flags)
  marked_told (flag ∷ flags) start (row ∷ rows) behind up =
      by_test (row.0 == start)
      (λ held.
      let same : row.0 ≡ start = eqb-true row.0 start held in
      let later : Behind (suc start) rows = each_as (λ (later : ℕ × List A). suc row.0 ≤ later.0) (λ (later : ℕ × List A). suc start ≤ later.0) (λ later h. omega (arith, h, same)) rows up.0 in
      let here : row.0 - start ≡ 0 = omega (arith, same) in
      first_marked (λ doc. values_of doc (row ∷ rows)) flag flags start
      ∙ ap (λ (b : Bool). cond flag (cond b row.1 (values_of start rows)) [] ++ flat_map (λ doc. values_of doc (row ∷ rows)) (marked_places (start + 1) flags)) held
      ∙ ap (λ (l : List A). cond flag row.1 [] ++ l)
      (row_passed row rows (start + 1) flags (omega (arith, same)) ∙ marked_told flags (start + 1) rows (behind_on start rows later) up.1 ∙ sym (told_on flag flags start rows later))
      ∙ ap (λ (k : ℕ). cond (get_or (flag ∷ flags) k false) row.1 [] ++ flat_map (told (flag ∷ flags) start) rows) (sym here))
      (λ failed.
      let apart : suc start ≤ row.0 = omega (arith, behind.0, eqb-false row.0 start failed) in
      let later : Behind (suc start) (row ∷ rows) = (apart, each_as (λ (later : ℕ × List A). suc row.0 ≤ later.0) (λ (later : ℕ × List A). suc start ≤ later.0) (λ later h. omega (arith, h, apart)) rows up.0) in
      first_marked (λ doc. values_of doc (row ∷ rows)) flag flags start
      ∙ ap (λ (l : List A). cond flag l [] ++ flat_map (λ doc. values_of doc (row ∷ rows)) (marked_places (start + 1) flags)) (none_of (suc start) start (row ∷ rows) (omega arith) later)
      ∙ nothing flag (flat_map (λ doc. values_of doc (row ∷ rows)) (marked_places (start + 1) flags))
      ∙ marked_told flags (start + 1) (row ∷ rows) (behind_on start (row ∷ rows) later) up
      ∙ sym (told_on flag flags start (row ∷ rows) later))

  -- ---- row by row

  pub ascend_of : (rows : RowsOf A) → IsStrictlyIncreasing (documents rows) → Ascend rows
  ascend_of [] up = tt
  ascend_of (row ∷ rows) up = (behind_of row.0 rows up, ascend_of rows (λ k low. let next : suc k + 1 ≡ suc (k + 1) = omega arith in rw next at (up (suc k) (omega (arith, low)))))
    where
      behind_of : (d : ℕ) (rows : RowsOf A) → IsStrictlyIncreasing (d ∷ documents rows) → Behind (suc d) rows
      behind_of d [] up = tt
      behind_of d (row ∷ rows) up =
          let here : d < row.0 = up 0 (omega arith) in
          (omega (arith, here), each_as (λ (later : ℕ × List A). suc row.0 ≤ later.0) (λ (later : ℕ × List A). suc d ≤ later.0) (λ later h. omega (arith, h, here)) rows (behind_of row.0 rows (λ k low. let next : suc k + 1 ≡ suc (k + 1) = omega arith in rw next at (up (suc k) (omega (arith, low))))))

  behind_all : (rows : RowsOf A) → Behind 0 rows
  behind_all [] = tt
  behind_all (row ∷ rows) = (omega arith, behind_all rows)

  pub rows_told : (flags : List Bool) (rows : RowsOf A) → IsStrictlyIncreasing (documents rows) → flat_map (λ doc. values_of doc rows) (marked_places 0 flags) ≡ flat_map (told flags 0) rows
  rows_told flags rows up = marked_told flags 0 rows (behind_all rows) (ascend_of rows up)

  -- what is left from a row on
  pub told_own : (flags : List Bool) (rows : RowsOf A) (at doc : ℕ) (values : List A) → at < length rows → slice_get rows at ≡ Some (doc, values)
      → flat_map (told flags 0) (drop at rows) ≡ cond (get_or flags doc false) values [] ++ flat_map (told flags 0) (drop (at + 1) rows)
  told_own flags [] at doc values low is = absurd (omega (arith, low))
  told_own flags (row ∷ rows) zero doc values low is =
      let same : doc - 0 ≡ doc = omega arith in
      ap (λ (r : ℕ × List A). told flags 0 r ++ flat_map (told flags 0) rows) (same_Some row (doc, values) is)
      ∙ ap (λ (d : ℕ). cond (get_or flags d false) values [] ++ flat_map (told flags 0) rows) same
  told_own flags (row ∷ rows) (suc at) doc values low is = let next : suc at + 1 ≡ suc (at + 1) = omega arith in rw next (told_own flags rows at doc values (omega (arith, low)) is)

  pub told_next : (flags : List Bool) (rows : RowsOf A) (at doc : ℕ) (values : List A) → at < length rows → doc ≡ get_or (documents rows) at 0 → slice_get rows at ≡ Some (get_or (documents rows) at 0, values)
      → flat_map (told flags 0) (drop at rows) ≡ cond (get_or flags doc false) values [] ++ flat_map (told flags 0) (drop (at + 1) rows)
  told_next flags rows at doc values low here is =
      told_own flags rows at (get_or (documents rows) at 0) values low is
      ∙ ap (λ (d : ℕ). cond (get_or flags d false) values [] ++ flat_map (told flags 0) (drop (at + 1) rows)) (sym here)

  -- the document of a row
  pub document_of : (rows : RowsOf A) (at doc : ℕ) (values : List A) → at < length rows → slice_get rows at ≡ Some (doc, values) → doc ≡ get_or (documents rows) at 0
  document_of rows at doc values low is =
      let d : ℕ × List A = (0, []) in
      ap (λ (row : ℕ × List A). row.0) (sym (get_or_from_slice_get rows at (doc, values) d is)) ∙ sym (get_or-map (λ (row : ℕ × List A). row.0) rows at d 0 low)

  pub document_below : (rows : RowsOf A) (at doc end : ℕ) (values : List A) → at < length rows → slice_get rows at ≡ Some (doc, values) → All (λ d. d < end) (documents rows) → doc < end
  document_below rows at doc end values low is within =
      let own : get_or (documents rows) at 0 < end = within at 0 (omega (arith, low, length-map rows (λ (row : ℕ × List A). row.0))) in
      omega (arith, own, document_of rows at doc values low is)

  pub told_skip : (flags : List Bool) (rows : RowsOf A) (at doc : ℕ) → at < length rows → doc ≡ get_or (documents rows) at 0 → get_or flags doc false ≡ false → flat_map (told flags 0) (drop at rows) ≡ flat_map (told flags 0) (drop (at + 1) rows)
  told_skip flags [] at doc low here off = absurd (omega (arith, low))
  told_skip flags (row ∷ rows) zero doc low here off =
      let none : get_or flags (row.0 - 0) false ≡ false = ap (λ (d : ℕ). get_or flags d false) (omega (arith, here)) ∙ off in
      ap (λ (b : Bool). cond b row.1 [] ++ flat_map (told flags 0) rows) none
  told_skip flags (row ∷ rows) (suc at) doc low here off = let next : suc at + 1 ≡ suc (at + 1) = omega arith in rw next (told_skip flags rows at doc (omega (arith, low)) here off)

  pub told_end : (flags : List Bool) (rows : RowsOf A) (at : ℕ) → length rows ≤ at → flat_map (told flags 0) (drop at rows) ≡ []
  told_end flags [] zero past = refl
  told_end flags [] (suc at) past = refl
  told_end flags (row ∷ rows) zero past = absurd (omega (arith, past))
  told_end flags (row ∷ rows) (suc at) past = told_end flags rows at (omega (arith, past))

  -- ---- how many there are

  pub flat_length : {B : Type 0} (f : B → List A) (xs : List B) → length (flat_map f xs) ≡ sum_by (λ x. length (f x)) xs
  flat_length f [] = refl
  flat_length f (x ∷ xs) = omega (arith, length-append (f x) (flat_map f xs), flat_length f xs, sum_by-cons (λ x. length (f x)) x xs)

  -- a row that is there
  pub values_at : (rows : RowsOf A) (at : ℕ) → at < length rows → (values : List A) × (slice_get rows at ≡ Some (get_or (documents rows) at 0, values))
  values_at [] at low = absurd (omega (arith, low))
  values_at (row ∷ rows) zero low = (row.1, refl)
  values_at (row ∷ rows) (suc at) low = values_at rows at (omega (arith, low))

  pub count_alike : (rows : RowsOf A) (at doc : ℕ) (own values : List A) → slice_get rows at ≡ Some (doc, own) → slice_get rows at ≡ Some (doc, values) → length own ≡ length values
  count_alike rows at doc own values is other = ap (λ (row : ℕ × List A). length row.1) (same_Some (doc, own) (doc, values) (sym is ∙ other))

  length_if : (flag : Bool) (values : List A) → length (cond flag values []) ≡ cond flag (length values) 0
  length_if true values = refl
  length_if false values = refl

  pub told_count : (flags : List Bool) (rows : RowsOf A) (at : ℕ) (values : List A) → at < length rows → slice_get rows at ≡ Some (get_or (documents rows) at 0, values)
      → length (flat_map (told flags 0) (drop at rows)) ≡ cond (get_or flags (get_or (documents rows) at 0) false) (length values) 0 + length (flat_map (told flags 0) (drop (at + 1) rows))
  told_count flags rows at values low is =
      let here : Bool = get_or flags (get_or (documents rows) at 0) false in
      omega (
        arith,
        ap length (told_next flags rows at (get_or (documents rows) at 0) values low refl is),
        length-append (cond here values []) (flat_map (told flags 0) (drop (at + 1) rows)),
        length_if here values,
      )

  -- a row of one value
  pub told_one : (flags : List Bool) (rows : RowsOf A) (at doc : ℕ) (value : A) → at < length rows → slice_get rows at ≡ Some (doc, value ∷ [])
      → length (flat_map (told flags 0) (drop at rows)) ≡ cond (get_or flags doc false) 1 0 + length (flat_map (told flags 0) (drop (at + 1) rows))
  told_one flags rows at doc value low is =
      let here : Bool = get_or flags doc false in
      omega (
        arith,
        ap length (told_own flags rows at doc (value ∷ []) low is),
        length-append (cond here (value ∷ []) []) (flat_map (told flags 0) (drop (at + 1) rows)),
        length_if here (value ∷ []),
      )
