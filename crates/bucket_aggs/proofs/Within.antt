-- The documents of a segment's columns have places in a set that is as long as the segment has documents.
use Rattle.std.proofs.Common.{◌≡◌, ℕ, ℤ, ◌<◌, Bool, List, [], length, Option, Some, None, IfSome, sym, subst, arith}
use Rattle.std.specs.List.{All}
use Rattle.std.specs.List.Sorted.{IsStrictlyIncreasing}
use Rattle.std.proofs.lemmas.List.{get_or-map, length-map}
use Rattle.std.proofs.lemmas.List.Elements.{recursion_from_All}
use Rattle.doc_values.specs.Single.{AreSingle}
use Rattle.doc_values.specs.Values.{documents}
use Rattle.segment_parts.specs.Agree.{AreColumns, AreWithin}
use Rattle.segment_parts.specs.Fields.{column_of}
use Rattle.segment_parts.specs.declared.columns.Columns.{Columns}
use Rattle.bucket_aggs.specs.Columns.{AreOwnRows}
use Rattle.bucket_aggs.proofs.Termed.{column_has}

rows_below : {A : Type 0} (rows : List (ℕ × List A)) (end : ℕ) → AreWithin end rows → All (λ doc. doc < end) (documents rows)
rows_below {A} rows end within = λ k d below.
    let none : ℕ × List A = (0, []) in
    let low : k < length rows = omega (arith, below, length-map rows (λ (row : ℕ × List A). row.0)) in
    omega (arith, within k none low, get_or-map (λ (row : ℕ × List A). row.0) rows k none d low)

-- those of the column of a field
column_below : {A : Type 0} (f end : ℕ) (found : List (ℕ × List A)) (columns : List (ℕ × List (ℕ × List A))) → All (λ (column : ℕ × List (ℕ × List A)). AreWithin end column.1) columns → column_of f columns ≡ Some found → All (λ doc. doc < end) (documents found)
column_below {A} f end found columns within is =
    let P : ℕ × List (ℕ × List A) → Type 0 = λ (column : ℕ × List (ℕ × List A)). AreWithin end column.1 in
    rows_below found end (column_has P f found columns (recursion_from_All P columns within) is)

module _ (columns : Columns) (f : ℕ) (flags : List Bool) (are : AreColumns columns) (long : length flags ≡ columns.documents) where
  pub numbers_below : (found : List (ℕ × List ℤ)) → column_of f columns.numbers ≡ Some found → All (λ doc. doc < length flags) (documents found)
  numbers_below found is =
      subst (λ (end : ℕ). All (λ doc. doc < end) (documents found)) (sym long) (column_below f columns.documents found columns.numbers are.fields.numbers_within is)

  pub ordinals_below : (found : List (ℕ × List ℕ)) → column_of f columns.ordinals ≡ Some found → All (λ doc. doc < length flags) (documents found)
  ordinals_below found is =
      subst (λ (end : ℕ). All (λ doc. doc < end) (documents found)) (sym long) (column_below f columns.documents found columns.ordinals are.fields.ordinals_within is)

-- its rows, if each has one value
pub own_rows : (column : List (ℕ × List ℤ)) (flags : List Bool) (found : Option (List (ℕ × List ℤ))) → All (λ doc. doc < length flags) (documents column) → IfSome found (λ rows. (rows ≡ column) × AreSingle rows) → IfSome found (λ rows. IsStrictlyIncreasing (documents rows)) → IfSome found (AreOwnRows column flags)
own_rows column flags None within same up = tt
own_rows column flags (Some rows) within same up =
    record { same = same.0; ascending = up; within = subst (λ (l : List (ℕ × List ℤ)). All (λ doc. doc < length flags) (documents l)) (sym same.0) within }
