-- Documents counted by what they show of a field, where a column has it.
use Rattle.std.proofs.Common.{◌≡◌, ℕ, ◌==◌, ℤ, Bool, true, false, ◌&&◌, cond, List, [], ◌∷◌, ◌++◌, length, map, count_by, sum_by, Option, Some, None, refl, sym, ap, ◌∙◌, arith}
use Rattle.std.specs.List.{flat_map, list_any}
use Rattle.std.specs.List.Sorted.{IsPermutation, IsSorted}
use Rattle.std.specs.Ordering.{int_cmp, is_eq}
use Rattle.std.specs.declared.cmp.Ordering.{Ordering}
use Rattle.std.proofs.lemmas.Cmp.{int_cmp_total}
use Rattle.std.proofs.lemmas.Map.Lookups.{exact_signed}
use Rattle.std.proofs.lemmas.List.{length-append, length-map}
use Rattle.std.proofs.lemmas.List.Sums.{sum_by-cons}
use Rattle.std.proofs.lemmas.List.Elements.{recursion_from_All}
use Rattle.std.proofs.lemmas.List.Sorted.{sum_by-IsPermutation}
use Rattle.doc_values.specs.Values.{AreRows, AreValues, values_of}
use Rattle.mapping_body.specs.declared.kind.Kind.{Kind}
use Rattle.query_ast.specs.Compare.{is_same_value}
use Rattle.query_ast.specs.Uses.{is_written}
use Rattle.segment.specs.Flat.{FlatDocument, bytes_at, flat_of}
use Rattle.segment.specs.Shows.{column_values}
use Rattle.segment_parts.specs.Fields.{column_of}
use Rattle.segment_parts.specs.Lists.{terms_of}
use Rattle.segment_parts.specs.declared.columns.Columns.{Columns}
use Rattle.tree_objects.specs.declared.field_value.FieldValue.{FieldValue}
use Rattle.tree_objects.specs.declared.field_value.FieldValue.TheVariants.{Number, Written}
use Rattle.view_objects.specs.Values.{values_shown}
use Rattle.bucket_aggs.specs.Counts.{is_number, once, shows}
use Rattle.bucket_aggs.specs.Sums.{keywords_in, numbers_in, values_in}
use Rattle.query_ast.proofs.Elements.{Each, by_test}
use Rattle.bucket_aggs.proofs.Lists.{any_map}
use Rattle.bucket_aggs.proofs.Onces.{once_counts, sorted_up}
use Rattle.bucket_aggs.proofs.Rowed.{count_flat, count_mapped, count_never, count_same, one_if, sum_mapped, sum_never, sum_same}

-- ---- the law of one segment

abbrev pub HaveNumbers : Columns → Type 0
HaveNumbers columns = (field doc : ℕ) → values_of field (flat_of columns doc).numbers ≡ column_values doc (column_of field columns.numbers)

abbrev pub HaveKeywords : Columns → Type 0
HaveKeywords columns = (field doc : ℕ) → values_of field (flat_of columns doc).keywords ≡ map (bytes_at (terms_of columns)) (column_values doc (column_of field columns.ordinals))

module _ (columns : Columns) (kind : Kind) (f : ℕ) where
  -- what a document shows, by the kind
  shown_number : is_written kind ≡ false → HaveNumbers columns → (doc : ℕ) → values_shown kind f (flat_of columns doc) ≡ map Number (column_values doc (column_of f columns.numbers))
  shown_number plain law doc =
      ap (λ (b : Bool). cond b (map Written (values_of f (flat_of columns doc).keywords)) (map Number (values_of f (flat_of columns doc).numbers))) plain
      ∙ ap (map Number) (law f doc)

  pub shown_text : is_written kind ≡ true → HaveKeywords columns → (doc : ℕ) → values_shown kind f (flat_of columns doc) ≡ map Written (map (bytes_at (terms_of columns)) (column_values doc (column_of f columns.ordinals)))
  shown_text written law doc =
      ap (λ (b : Bool). cond b (map Written (values_of f (flat_of columns doc).keywords)) (map Number (values_of f (flat_of columns doc).numbers))) written
      ∙ ap (map Written) (law f doc)

  pub numbers_shown : (v : FieldValue) (found : List (ℕ × List ℤ)) (docs : List ℕ) → is_written kind ≡ false → HaveNumbers columns → column_of f columns.numbers ≡ Some found
      → count_by (shows kind f v) (map (flat_of columns) docs) ≡ count_by (λ doc. list_any (is_same_value v) (map Number (values_of doc found))) docs
  numbers_shown v found docs plain law is =
      count_mapped (shows kind f v) (flat_of columns) docs
      ∙ count_same (λ doc. shows kind f v (flat_of columns doc)) (λ doc. list_any (is_same_value v) (map Number (values_of doc found)))
      (λ doc. ap (list_any (is_same_value v)) (shown_number plain law doc ∙ ap (λ (c : Option (List (ℕ × List ℤ))). map Number (column_values doc c)) is)) docs

  pub no_numbers_shown : (v : FieldValue) (docs : List ℕ) → is_written kind ≡ false → HaveNumbers columns → column_of f columns.numbers ≡ None → count_by (shows kind f v) (map (flat_of columns) docs) ≡ 0
  no_numbers_shown v docs plain law is =
      count_mapped (shows kind f v) (flat_of columns) docs
      ∙ count_never (λ doc. shows kind f v (flat_of columns doc))
      (λ doc. ap (list_any (is_same_value v)) (shown_number plain law doc ∙ ap (λ (c : Option (List (ℕ × List ℤ))). map Number (column_values doc c)) is)) docs

  pub texts_shown : (v : FieldValue) (found : List (ℕ × List ℕ)) (docs : List ℕ) → is_written kind ≡ true → HaveKeywords columns → column_of f columns.ordinals ≡ Some found
      → count_by (shows kind f v) (map (flat_of columns) docs) ≡ count_by (λ ordinals. list_any (is_same_value v) (map Written (map (bytes_at (terms_of columns)) ordinals))) (map (λ doc. values_of doc found) docs)
  texts_shown v found docs written law is =
      count_mapped (shows kind f v) (flat_of columns) docs
      ∙ count_same (λ doc. shows kind f v (flat_of columns doc)) (λ doc. list_any (is_same_value v) (map Written (map (bytes_at (terms_of columns)) (values_of doc found))))
      (λ doc. ap (list_any (is_same_value v)) (shown_text written law doc ∙ ap (λ (c : Option (List (ℕ × List ℕ))). map Written (map (bytes_at (terms_of columns)) (column_values doc c))) is)) docs
      ∙ sym (count_mapped (λ ordinals. list_any (is_same_value v) (map Written (map (bytes_at (terms_of columns)) ordinals))) (λ doc. values_of doc found) docs)

  pub no_texts_shown : (v : FieldValue) (docs : List ℕ) → is_written kind ≡ true → HaveKeywords columns → column_of f columns.ordinals ≡ None → count_by (shows kind f v) (map (flat_of columns) docs) ≡ 0
  no_texts_shown v docs written law is =
      count_mapped (shows kind f v) (flat_of columns) docs
      ∙ count_never (λ doc. shows kind f v (flat_of columns doc))
      (λ doc. ap (list_any (is_same_value v)) (shown_text written law doc ∙ ap (λ (c : Option (List (ℕ × List ℕ))). map Written (map (bytes_at (terms_of columns)) (column_values doc c))) is)) docs

-- ---- how many values there are

module _ (columns : Columns) (f : ℕ) (docs : List ℕ) (law : HaveKeywords columns) where
  pub keywords_long : (found : List (ℕ × List ℕ)) → column_of f columns.ordinals ≡ Some found → sum_by (keywords_in f) (map (flat_of columns) docs) ≡ sum_by (λ doc. length (values_of doc found)) docs
  keywords_long found is =
      sum_mapped (keywords_in f) (flat_of columns) docs
      ∙ sum_same (λ doc. keywords_in f (flat_of columns doc)) (λ doc. length (values_of doc found))
      (λ doc. ap length (law f doc ∙ ap (λ (c : Option (List (ℕ × List ℕ))). map (bytes_at (terms_of columns)) (column_values doc c)) is) ∙ length-map (values_of doc found) (bytes_at (terms_of columns))) docs

  pub no_keywords_long : column_of f columns.ordinals ≡ None → sum_by (keywords_in f) (map (flat_of columns) docs) ≡ 0
  no_keywords_long is =
      sum_mapped (keywords_in f) (flat_of columns) docs
      ∙ sum_never (λ doc. keywords_in f (flat_of columns doc))
      (λ doc. ap length (law f doc ∙ ap (λ (c : Option (List (ℕ × List ℕ))). map (bytes_at (terms_of columns)) (column_values doc c)) is)) docs

module _ (kind : Kind) (f : ℕ) where
  shown_long : (d : FlatDocument) → values_in kind f d ≡ cond (is_written kind) (keywords_in f d) (length (numbers_in f d))
  shown_long d = by (is_written kind)
    where
      by : (b : Bool) → length (cond b (map Written (values_of f d.keywords)) (map Number (values_of f d.numbers))) ≡ cond b (keywords_in f d) (length (numbers_in f d))
      by true = length-map (values_of f d.keywords) Written
      by false = length-map (values_of f d.numbers) Number

  pub keywords_all : (flats : List FlatDocument) → is_written kind ≡ true → sum_by (values_in kind f) flats ≡ sum_by (keywords_in f) flats
  keywords_all flats written = sum_same (values_in kind f) (keywords_in f) (λ d. shown_long d ∙ ap (λ (b : Bool). cond b (keywords_in f d) (length (numbers_in f d))) written) flats

  pub numbers_all : (flats : List FlatDocument) → is_written kind ≡ false → sum_by (values_in kind f) flats ≡ length (flat_map (numbers_in f) flats)
  numbers_all [] plain = refl
  numbers_all (d ∷ flats) plain =
      omega (
        arith,
        sum_by-cons (values_in kind f) d flats,
        shown_long d,
        ap (λ (b : Bool). cond b (keywords_in f d) (length (numbers_in f d))) plain,
        length-append (numbers_in f d) (flat_map (numbers_in f) flats),
        numbers_all flats plain,
      )

-- the numbers of documents, document by document
pub numbers_told : (columns : Columns) (f : ℕ) (found : List (ℕ × List ℤ)) (docs : List ℕ) → HaveNumbers columns → column_of f columns.numbers ≡ Some found
    → flat_map (numbers_in f) (map (flat_of columns) docs) ≡ flat_map (λ doc. values_of doc found) docs
numbers_told columns f found [] law is = refl
numbers_told columns f found (doc ∷ docs) law is =
    ap (λ (l : List ℤ). l ++ flat_map (numbers_in f) (map (flat_of columns) docs)) (law f doc ∙ ap (column_values doc) is)
    ∙ ap (λ (l : List ℤ). values_of doc found ++ l) (numbers_told columns f found docs law is)

pub no_numbers_told : (columns : Columns) (f : ℕ) (docs : List ℕ) → HaveNumbers columns → column_of f columns.numbers ≡ None → flat_map (numbers_in f) (map (flat_of columns) docs) ≡ []
no_numbers_told columns f [] law is = refl
no_numbers_told columns f (doc ∷ docs) law is =
    ap (λ (l : List ℤ). l ++ flat_map (numbers_in f) (map (flat_of columns) docs)) (law f doc ∙ ap (column_values doc) is)
    ∙ no_numbers_told columns f docs law is

-- ---- numbers, each document's different ones

and_true : (b : Bool) → (b && true) ≡ b
and_true true = refl
and_true false = refl

never_any : (s : List ℕ) (zs : List ℤ) → list_any (is_same_value (Written s)) (map Number zs) ≡ false
never_any s [] = refl
never_any s (z ∷ zs) = never_any s zs

once_number : (v : FieldValue) (zs : List ℤ) → IsSorted int_cmp zs → count_by (is_number v) (once zs) ≡ cond (list_any (is_same_value v) (map Number zs)) 1 0
once_number (Number w) zs up =
    once_counts int_cmp int_cmp_total exact_signed w None zs (sorted_up int_cmp int_cmp_total exact_signed zs up) tt
    ∙ ap (λ (b : Bool). cond {A = ℕ} b 1 0) (and_true (list_any (λ z. is_eq (int_cmp w z)) zs) ∙ sym (any_map (is_same_value (Number w)) Number zs))
once_number (Written s) zs up =
    count_never (is_number (Written s)) (λ z. refl) (once zs) ∙ ap (λ (b : Bool). cond {A = ℕ} b 1 0) (sym (never_any s zs))

sorted_values : {X : Type 0} (cmp : X → X → Ordering) (doc : ℕ) (rows : List (ℕ × List X)) → Each (λ (row : ℕ × List X). AreValues cmp row.1) rows → IsSorted cmp (values_of doc rows)
sorted_values cmp doc [] all = λ k d from to. absurd (omega (arith, to))
sorted_values cmp doc (row ∷ rows) all =
    by_test (row.0 == doc) (λ held. rw held all.0.ascending) (λ failed. rw failed (sorted_values cmp doc rows all.1))

pub column_sorted : {X : Type 0} (cmp : X → X → Ordering) (doc : ℕ) (rows : List (ℕ × List X)) → AreRows cmp rows → IsSorted cmp (values_of doc rows)
column_sorted {X} cmp doc rows are = sorted_values cmp doc rows (recursion_from_All (λ (row : ℕ × List X). AreValues cmp row.1) rows are.valued)

pub numbers_counted : (v : FieldValue) (rows : List (ℕ × List ℤ)) (docs : List ℕ) → AreRows int_cmp rows
    → count_by (is_number v) (flat_map (λ doc. once (values_of doc rows)) docs) ≡ count_by (λ doc. list_any (is_same_value v) (map Number (values_of doc rows))) docs
numbers_counted v rows docs are =
    count_flat (is_number v) (λ doc. once (values_of doc rows)) docs
    ∙ sum_same (λ doc. count_by (is_number v) (once (values_of doc rows))) (one_if (λ doc. list_any (is_same_value v) (map Number (values_of doc rows)))) (λ doc. once_number v (values_of doc rows) (column_sorted int_cmp doc rows are)) docs

pub count_permuted : {A : Type 0} (test : A → Bool) (xs ys : List A) → IsPermutation xs ys → count_by test ys ≡ count_by test xs
count_permuted test xs ys same = sum_by-IsPermutation (one_if test) xs ys same
