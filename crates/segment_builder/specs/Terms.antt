-- The terms of keyword and number fields, from the entries of documents.
use denote.Ref.{Bor}
use Rattle.std.specs.Prelude.{◌≡◌, ℕ, ℤ, List, [], ◌∷◌, ◌++◌, map, slice_index_or, FitsSigned, Vec, if◌then◌else◌}
use Rattle.std.specs.Cmp.Lexicographic.{slice_cmp}
use Rattle.std.specs.Int.{from_be_bytes, w64}
use Rattle.std.specs.List.{AllByRecursion, flat_map}
use Rattle.std.specs.Ordering.{nat_cmp}
use Rattle.std.specs.Str.{bytes_eq}
use Rattle.flattener.specs.declared.document.KeywordField.{KeywordField}
use Rattle.flattener.specs.declared.document.NumberField.{NumberField}
use Rattle.flattener.specs.declared.document.Word.{Word}
use Rattle.smallvec.specs.SmallVec.{SmallVec}
use Rattle.term_table.specs.Keys.{number_key}
use Rattle.term_table.specs.declared.rows.TermRow.{TermRow}
use Rattle.segment_builder.specs.Columns.{keyword_rows, number_rows}
use Rattle.segment_builder.specs.Members.{word_member}
use Rattle.segment_builder.specs.Groups.{in_groups, keys, of_key, runs, AreRising}
use Rattle.segment_builder.specs.declared.rows.FieldTerms.{FieldTerms}
use Rattle.segment_builder.specs.declared.rows.FieldTerms.TheVariants.{Words, Keywords, Numbers}

-- terms of a field in a document, without positions
abbrev pub terms_at : ℕ → ℕ → List (List ℕ) → List ((ℕ × List ℕ) × (ℕ × List ℕ))
terms_at field doc values = map (λ bytes. ((field, bytes), (doc, []))) values

-- a value, if it isn't the one before it
abbrev pub unless_same : List ℕ → List ℕ → List (List ℕ)
unless_same last value = if bytes_eq value last then [] else value ∷ []

-- values that ascend, each once
abbrev pub once_after : List ℕ → List (List ℕ) → List (List ℕ)
once_after last [] = []
once_after last (value ∷ values) = unless_same last value ++ once_after value values

abbrev pub once : List (List ℕ) → List (List ℕ)
once [] = []
once (value ∷ values) = value ∷ once_after value values

abbrev pub keyword_terms : List (ℕ × (ℕ × List (List ℕ))) → List ((ℕ × List ℕ) × (ℕ × List ℕ))
keyword_terms [] = []
keyword_terms (entry ∷ entries) = terms_at entry.0 entry.1.0 (once entry.1.1) ++ keyword_terms entries

abbrev pub number_terms : List (ℕ × (ℕ × List ℤ)) → List ((ℕ × List ℕ) × (ℕ × List ℕ))
number_terms [] = []
number_terms (entry ∷ entries) = terms_at entry.0 entry.1.0 (once (map number_key entry.1.1)) ++ number_terms entries

-- a row as the group of its term
abbrev pub row_group : TermRow → (ℕ × List ℕ) × List (ℕ × List ℕ)
row_group row = (row.term, row.postings)

-- ---- entries of terms, field by field: the bytes of a term, a document, and the positions in it

abbrev pub term_entry : {K : Type 0} → (K → List ℕ) → (K → List ℕ) → K × ℕ → List ℕ × (ℕ × List ℕ)
term_entry {K} bytes positions entry = (bytes entry.0, (entry.1, positions entry.0))

abbrev pub entries_seen : {K : Type 0} → (K → List ℕ) → (K → List ℕ) → List (K × ℕ) → List (List ℕ × (ℕ × List ℕ))
entries_seen {K} bytes positions entries = map (term_entry bytes positions) entries

abbrev pub keyword_entry : Bor (SmallVec ℕ) × ℕ → List ℕ × (ℕ × List ℕ)
keyword_entry entry = (entry.0.now.items, (entry.1, []))

abbrev pub key_entry : List ℕ × ℕ → List ℕ × (ℕ × List ℕ)
key_entry entry = (entry.0, (entry.1, []))

-- the key of some number
abbrev pub IsKey : List ℕ → Type 0
IsKey key = (number : ℤ) × FitsSigned w64 number × (number_key number ≡ key)

-- the entries of a field, whatever they are
abbrev pub field_entries : FieldTerms → List (List ℕ × (ℕ × List ℕ))
field_entries (Words entries) = map word_member entries.items
field_entries (Keywords entries) = map keyword_entry entries.items
field_entries (Numbers entries) = map key_entry entries.items

abbrev pub fields_seen : {X : Type 0} → (X → List (List ℕ × (ℕ × List ℕ))) → List (ℕ × X) → List (ℕ × List (List ℕ × (ℕ × List ℕ)))
fields_seen {X} entries fields = map (λ (field : ℕ × X). (field.0, entries field.1)) fields

abbrev pub fields_in : List (ℕ × FieldTerms) → List (ℕ × List (List ℕ × (ℕ × List ℕ)))
fields_in fields = fields_seen field_entries fields

-- values in a document, as entries without positions
abbrev pub entries_at : ℕ → List (List ℕ) → List (List ℕ × (ℕ × List ℕ))
entries_at doc values = map (λ bytes. (bytes, (doc, []))) values

-- the values of documents, each once in a document
abbrev pub value_entries : {X : Type 0} → (X → List (List ℕ)) → List (ℕ × X) → List (List ℕ × (ℕ × List ℕ))
value_entries bytes [] = []
value_entries bytes (row ∷ rows) = entries_at row.0 (once (bytes row.1)) ++ value_entries bytes rows

abbrev pub keyword_entries : List (ℕ × List (List ℕ)) → List (List ℕ × (ℕ × List ℕ))
keyword_entries rows = value_entries (λ values. values) rows

abbrev pub number_entries : List (ℕ × List ℤ) → List (List ℕ × (ℕ × List ℕ))
number_entries rows = value_entries (λ values. map number_key values) rows

abbrev pub word_fields : {A : Type 0} → List (ℕ × Vec (Bor Word × ℕ) A) → List (ℕ × List (List ℕ × (ℕ × List ℕ)))
word_fields {A} fields = fields_seen (λ (entries : Vec (Bor Word × ℕ) A). map word_member entries.items) fields

abbrev pub keyword_fields : {A : Type 0} → List (ℕ × Vec (ℕ × Bor KeywordField) A) → List (ℕ × List (List ℕ × (ℕ × List ℕ)))
keyword_fields {A} fields = fields_seen (λ (rows : Vec (ℕ × Bor KeywordField) A). keyword_entries (keyword_rows rows.items)) fields

abbrev pub number_fields : {A : Type 0} → List (ℕ × Vec (ℕ × Bor NumberField) A) → List (ℕ × List (List ℕ × (ℕ × List ℕ)))
number_fields {A} fields = fields_seen (λ (rows : Vec (ℕ × Bor NumberField) A). number_entries (number_rows rows.items)) fields

-- what fields carry at a term
abbrev pub at_field : ℕ → List ℕ → List (ℕ × List (List ℕ × (ℕ × List ℕ))) → List (ℕ × List ℕ)
at_field field bytes fields = of_key (slice_cmp nat_cmp) bytes (in_groups nat_cmp field fields)

-- in each field the bytes rise
abbrev pub AreAllRising : List (ℕ × List (List ℕ × (ℕ × List ℕ))) → Type 0
AreAllRising fields = AllByRecursion (λ (field : ℕ × List (List ℕ × (ℕ × List ℕ))). AreRising (slice_cmp nat_cmp) field.1) fields

-- fields are others and, behind them, more fields put in order
pub record AddSorted (more old new : List (ℕ × List (List ℕ × (ℕ × List ℕ)))) : Type 0 where
  pub carry : (field : ℕ) (bytes : List ℕ) → at_field field bytes new ≡ at_field field bytes old ++ at_field field bytes more
  pub fields : keys new ≡ keys old ++ keys more
  pub rising : AreAllRising old → AreAllRising new

-- the first eight bytes as a number, the first of them the highest
unfoldable pub rank : List ℕ → ℕ
rank bytes =
    from_be_bytes w64
    (slice_index_or bytes 0 0
    ∷ slice_index_or bytes 1 0
    ∷ slice_index_or bytes 2 0
    ∷ slice_index_or bytes 3 0
    ∷ slice_index_or bytes 4 0
    ∷ slice_index_or bytes 5 0
    ∷ slice_index_or bytes 6 0
    ∷ slice_index_or bytes 7 0
    ∷ [])

-- a term of a field with its postings as a row
abbrev pub field_row : ℕ → List ℕ × List (ℕ × List ℕ) → TermRow
field_row field group = record { term = (field, group.0); postings = group.1 }

-- the rows of a field's entries, whose bytes rise
abbrev pub field_rows : ℕ → List (List ℕ × (ℕ × List ℕ)) → List TermRow
field_rows field entries = map (field_row field) (runs (slice_cmp nat_cmp) entries)

-- the rows of fields, one field behind the other
abbrev pub rows_of : List (ℕ × List (List ℕ × (ℕ × List ℕ))) → List TermRow
rows_of fields = flat_map (λ (field : ℕ × List (List ℕ × (ℕ × List ℕ))). field_rows field.0 field.1) fields

abbrev pub rows_in : List (ℕ × FieldTerms) → List TermRow
rows_in fields = rows_of (fields_in fields)
