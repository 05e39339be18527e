-- The values of a document in the column of a field are those that its flat document shows.
use Rattle.std.proofs.Common.{◌≡◌, ◌∙◌, inl, inr, ℕ, ℤ, suc, ◌+◌, Bool, true, false, ◌&&◌, ◌||◌, List, [], ◌∷◌, length, map, get_or, All, Contains, FitsSigned, w64, refl, sym, ap, arith}
use Rattle.std.specs.Prelude.{◌==◌, nat_lt, slice_index_or}
use Rattle.std.specs.List.{filter, list_any}
use Rattle.std.specs.List.Sorted.{IsStrictlyIncreasing}
use Rattle.std.proofs.lemmas.Bool.Decides.{nat_tests, Decides-eqb}
use Rattle.std.proofs.lemmas.List.{get_or_default}
use Rattle.std.proofs.lemmas.List.Elements.{All-filter, All-map}
use Rattle.std.proofs.lemmas.Map.Keys.{sorted_from_strictly_increasing, below_from_sorted}
use Rattle.doc_values.specs.Values.{values_of}
use Rattle.segment_parts.specs.Fields.{fields, column_of}
use Rattle.segment_parts.specs.Agree.{AreColumns}
use Rattle.segment_parts.specs.Lists.{terms_of}
use Rattle.segment.specs.Flat.{bytes_at, values_at, flat_of}
use Rattle.segment.specs.Shows.{has_text, column_values, column_flag}
use Rattle.segment_parts.specs.declared.columns.Columns.{Columns}
use Rattle.segment.proofs.PostingKinds.{values_fit}
use Rattle.segment.proofs.Flats.{split, any-map, any-filter}

-- fields ascend behind the first, and none of them is the first
rest_rises : {X : Type 0} (column : ℕ × X) (columns : List (ℕ × X)) → IsStrictlyIncreasing (fields (column ∷ columns)) → IsStrictlyIncreasing (fields columns)
rest_rises column columns rise k below =
    let next : suc k + 1 ≡ suc (k + 1) = omega arith in
    rw next at (rise (suc k) (omega arith))

first_apart : {X : Type 0} (column : ℕ × X) (columns : List (ℕ × X)) (field : ℕ) → IsStrictlyIncreasing (fields (column ∷ columns)) → column.0 ≡ field → Contains (fields columns) field → ⊥
first_apart column columns field rise own there =
    let less = below_from_sorted (fields (column ∷ columns)) 0 (suc there.0) 0 (sorted_from_strictly_increasing (fields (column ∷ columns)) rise) (omega arith) (omega (arith, there.1)) in
    omega (arith, less, get_or_default (fields columns) there.0 0 field there.1, there.2, own)

-- a field without a column has no values
no_values : {X : Type 0} (doc field : ℕ) (columns : List (ℕ × List (ℕ × List X))) → (Contains (fields columns) field → ⊥) → values_of field (values_at doc columns) ≡ []
no_values doc field [] never = refl
no_values doc field (column ∷ columns) never =
    let rest = no_values doc field columns (λ there. never (suc there.0, omega (arith, there.1), there.2)) in
    elim (split (column.0 == field)) [
      | inl holds ↦ absurd (never (0, omega arith, (Decides-eqb column.0 field).0 holds))
      | inr fails ↦ elim (split (nat_lt 0 (length (values_of doc column.1)))) [
        | inl some ↦ rw (some, fails) rest
        | inr none ↦ rw none rest
      ]
    ]

empty : {X : Type 0} (xs : List X) → nat_lt 0 (length xs) ≡ false → xs ≡ []
empty [] none = refl
empty (x ∷ xs) none = absurd (grind (arith, nat_tests))

pub values_shown : {X : Type 0} (doc field : ℕ) (columns : List (ℕ × List (ℕ × List X))) → IsStrictlyIncreasing (fields columns) → values_of field (values_at doc columns) ≡ column_values doc (column_of field columns)
values_shown doc field [] rise = refl
values_shown doc field (column ∷ columns) rise =
    elim (split (column.0 == field)) [
      | inl holds ↦ elim (split (nat_lt 0 (length (values_of doc column.1)))) [
        | inl some ↦ rw (some, holds) refl
        | inr none ↦ rw (none, holds) (no_values doc field columns (first_apart column columns field rise ((Decides-eqb column.0 field).0 holds)) ∙ sym (empty (values_of doc column.1) none))
      ]
      | inr fails ↦
          let rest = values_shown doc field columns (rest_rises column columns rise) in
          elim (split (nat_lt 0 (length (values_of doc column.1)))) [
            | inl some ↦ rw (some, fails) rest
            | inr none ↦ rw (none, fails) rest
          ]
    ]

-- values that are named
named : {X Y : Type 0} (name : X → Y) (field : ℕ) (pairs : List (ℕ × List X)) → values_of field (map (λ (pair : ℕ × List X). (pair.0, map name pair.1)) pairs) ≡ map name (values_of field pairs)
named name field [] = refl
named name field (pair ∷ pairs) =
    let rest = named name field pairs in
    elim (split (pair.0 == field)) [
      | inl holds ↦ rw holds refl
      | inr fails ↦ rw fails rest
    ]

pub keywords_shown : (c : Columns) (field doc : ℕ) → AreColumns c → values_of field (flat_of c doc).keywords ≡ map (bytes_at (terms_of c)) (column_values doc (column_of field c.ordinals))
keywords_shown c field doc are = named (bytes_at (terms_of c)) field (values_at doc c.ordinals) ∙ ap (map (bytes_at (terms_of c))) (values_shown doc field c.ordinals are.parts.ordinals_are.ascending)

-- ---- text fields

abbrev marks : ℕ → ℕ → ℕ × List Bool → Bool
marks doc field column = slice_index_or column.1 doc false && (column.0 == field)

unmarked : (flag rest : Bool) → ((flag && false) || rest) ≡ rest
unmarked true rest = refl
unmarked false rest = refl

no_text : (doc field : ℕ) (columns : List (ℕ × List Bool)) → (Contains (fields columns) field → ⊥) → list_any (marks doc field) columns ≡ false
no_text doc field [] never = refl
no_text doc field (column ∷ columns) never =
    let rest = no_text doc field columns (λ there. never (suc there.0, omega (arith, there.1), there.2)) in
    elim (split (column.0 == field)) [
      | inl holds ↦ absurd (never (0, omega arith, (Decides-eqb column.0 field).0 holds))
      | inr fails ↦ rw fails (unmarked (slice_index_or column.1 doc false) (list_any (marks doc field) columns) ∙ rest)
    ]

marked : (flag rest : Bool) → rest ≡ false → ((flag && true) || rest) ≡ flag
marked true rest none = refl
marked false rest none = none

texts_over : (doc field : ℕ) (columns : List (ℕ × List Bool)) → IsStrictlyIncreasing (fields columns) → list_any (marks doc field) columns ≡ column_flag doc (column_of field columns)
texts_over doc field [] rise = refl
texts_over doc field (column ∷ columns) rise =
    let flag = slice_index_or column.1 doc false in
    elim (split (column.0 == field)) [
      | inl holds ↦ rw holds (marked flag (list_any (marks doc field) columns) (no_text doc field columns (first_apart column columns field rise ((Decides-eqb column.0 field).0 holds))))
      | inr fails ↦ rw fails (unmarked flag (list_any (marks doc field) columns) ∙ texts_over doc field columns (rest_rises column columns rise))
    ]

pub texts_shown : (c : Columns) (field doc : ℕ) → AreColumns c → has_text field (flat_of c doc) ≡ column_flag doc (column_of field c.present)
unfolding has_text
texts_shown c field doc are =
    let own : ℕ × List Bool → ℕ = λ column. column.0 in
    let flag : ℕ × List Bool → Bool = λ column. slice_index_or column.1 doc false in
    any-map (λ (f : ℕ). f == field) own (filter flag c.present)
    ∙ any-filter flag (λ column. own column == field) c.present
    ∙ texts_over doc field c.present are.parts.present_are.ascending

-- ---- numbers fit eight bytes

pub fit_shown : (c : Columns) (doc : ℕ) → AreColumns c → All (λ (pair : ℕ × List ℤ). All (FitsSigned w64) pair.1) (flat_of c doc).numbers
fit_shown c doc are =
    let Fit : ℕ × List ℤ → Type 0 = λ pair. All (FitsSigned w64) pair.1 in
    let own : ℕ × List (ℕ × List ℤ) → ℕ × List ℤ = λ column. (column.0, values_of doc column.1) in
    All-filter (λ (pair : ℕ × List ℤ). nat_lt 0 (length pair.1)) Fit (map own c.numbers)
    (All-map Fit own c.numbers (λ k d below. values_fit (get_or c.numbers k d).1 doc (are.parts.numbers_are.each k d below).entries.fit))
