-- Columns made of groups.
use denote.Ref.{Bor}
use Rattle.std.specs.Prelude.{◌≡◌, ℕ, ℤ, suc, ◌+◌, ◌<◌, ◌≤◌, Bool, true, false, cond, List, [], ◌∷◌, length, map, replicate, slice_get, slice_set, Contains, Option, Some, Vec}
use Rattle.std.specs.Cmp.Lexicographic.{slice_cmp}
use Rattle.std.specs.Ordering.{eq_by_cmp, nat_cmp}
use Rattle.doc_values.specs.Stands.{IsColumn}
use Rattle.flattener.specs.declared.document.KeywordField.{KeywordField}
use Rattle.flattener.specs.declared.document.NumberField.{NumberField}
use Rattle.term_table.specs.Terms.{term_cmp}
use Rattle.term_table.specs.declared.rows.TermRow.{TermRow}
use Rattle.segment_builder.specs.Members.{keyword_member, number_member}

abbrev pub terms_in : List TermRow → List (ℕ × List ℕ)
terms_in rows = map (λ (row : TermRow). row.term) rows

abbrev pub terms_lent : List (ℕ × Bor (List ℕ)) → List (ℕ × List ℕ)
terms_lent terms = map (λ (term : ℕ × Bor (List ℕ)). (term.0, term.1.now)) terms

-- ---- rows that are lent

abbrev pub number_rows : List (ℕ × Bor NumberField) → List (ℕ × List ℤ)
number_rows rows = map number_member rows

abbrev pub keyword_rows : List (ℕ × Bor KeywordField) → List (ℕ × List (List ℕ))
keyword_rows rows = map keyword_member rows

abbrev pub number_groups : {A : Type 0} → List (ℕ × Vec (ℕ × Bor NumberField) A) → List (ℕ × List (ℕ × List ℤ))
number_groups {A} groups = map (λ (group : ℕ × Vec (ℕ × Bor NumberField) A). (group.0, number_rows group.1.items)) groups

abbrev pub keyword_groups : {A : Type 0} → List (ℕ × Vec (ℕ × Bor KeywordField) A) → List (ℕ × List (ℕ × List (List ℕ)))
keyword_groups {A} groups = map (λ (group : ℕ × Vec (ℕ × Bor KeywordField) A). (group.0, keyword_rows group.1.items)) groups

-- ---- ordinals

-- the terms at ordinals
abbrev pub row_terms : List (ℕ × List ℕ) → ℕ × List ℕ → ℕ × List (Option (ℕ × List ℕ))
row_terms terms row = (row.0, map (slice_get terms) row.1)

abbrev pub column_terms : List (ℕ × List ℕ) → ℕ × List (ℕ × List ℕ) → ℕ × List (ℕ × List (Option (ℕ × List ℕ)))
column_terms terms column = (column.0, map (row_terms terms) column.1)

-- the place of a term that is there
abbrev pub ordinal_of : List (ℕ × List ℕ) → ℕ × List ℕ → ℕ
ordinal_of [] term = 0
ordinal_of (own ∷ terms) term = cond (eq_by_cmp term_cmp term own) 0 (suc (ordinal_of terms term))

abbrev pub ordinal_row : List (ℕ × List ℕ) → ℕ → ℕ × List (List ℕ) → ℕ × List ℕ
ordinal_row terms field row = (row.0, map (λ bytes. ordinal_of terms (field, bytes)) row.1)

abbrev pub ordinal_column : List (ℕ × List ℕ) → ℕ × List (ℕ × List (List ℕ)) → ℕ × List (ℕ × List ℕ)
ordinal_column terms group = (group.0, map (ordinal_row terms group.0) group.1)

-- the terms before a place are of smaller fields, and those from another place on are of the field or of greater ones
pub record IsFieldStart (terms : List (ℕ × List ℕ)) (field low high : ℕ) : Type 0 where
  pub before : (at : ℕ) (term : ℕ × List ℕ) → slice_get terms at ≡ Some term → at < low → term.0 < field
  pub from : (at : ℕ) (term : ℕ × List ℕ) → slice_get terms at ≡ Some term → high ≤ at → field ≤ term.0

-- all terms of a field stand from a place on and before another
pub record IsFieldRange (terms : List (ℕ × List ℕ)) (field from end : ℕ) : Type 0 where
  pub start : IsFieldStart terms field from from
  pub stop : IsFieldStart terms (field + 1) end end
  pub within : end ≤ length terms

-- keywords as terms of their field
abbrev pub named : ℕ → List (List ℕ) → List (Option (ℕ × List ℕ))
named field values = map (λ bytes. Some (field, bytes)) values

abbrev pub named_row : ℕ → ℕ × List (List ℕ) → ℕ × List (Option (ℕ × List ℕ))
named_row field row = (row.0, named field row.1)

abbrev pub named_group : ℕ × List (ℕ × List (List ℕ)) → ℕ × List (ℕ × List (Option (ℕ × List ℕ)))
named_group group = (group.0, map (named_row group.0) group.1)

-- keywords of a field whose terms are all there
abbrev pub IsKeywordColumn : List (ℕ × List ℕ) → ℕ × List (ℕ × List (List ℕ)) → Type 0
IsKeywordColumn terms group = IsColumn (slice_cmp nat_cmp) (λ bytes. Contains terms (group.0, bytes)) group

-- ---- text fields

-- flags with the flags of these documents set
abbrev pub with_marks : List Bool → List ℕ → List Bool
with_marks flags [] = flags
with_marks flags (doc ∷ docs) = with_marks (slice_set flags doc true) docs

abbrev pub marks_of : ℕ → List ℕ → List Bool
marks_of documents docs = with_marks (replicate documents false) docs
