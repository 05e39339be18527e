-- Flat documents: what the columns say of each document.
use Rattle.std.specs.Prelude.{ℕ, ℤ, nat_lt, Bool, false, List, [], length, map, slice_index_or}
use Rattle.std.specs.List.{filter, position_or_len, range_with_len}
use Rattle.doc_values.specs.Values.{values_of}
use Rattle.stored_sources.specs.declared.root.Join.{Join}
use Rattle.stored_sources.specs.declared.root.Root.{Root}
use Rattle.term_table.specs.declared.rows.TermRow.{TermRow}
use Rattle.segment_parts.specs.Lists.{terms_of}
use Rattle.segment_parts.specs.declared.columns.Columns.{Columns}

-- a document without its place: its scope and, by ascending field, its values
pub record FlatDocument : Type 0 where
  pub scope : ℕ
  -- the numbers of a field, ascending
  pub numbers : List (ℕ × List ℤ)
  -- the keywords of a field, in the order of their bytes
  pub keywords : List (ℕ × List (List ℕ))
  -- the words of text fields, each with its field and its positions, by field and then by the bytes of the word
  pub words : List ((ℕ × List ℕ) × List ℕ)
  -- the text fields with a value
  pub texts : List ℕ

-- a root and its source
pub record FlatRoot : Type 0 where
  pub id : List ℕ
  pub number : ℕ
  -- the generation of the mapping it was indexed under
  pub generation : ℕ
  pub join : Join
  pub source : List ℕ

-- a pair whose list isn't empty
abbrev pub has_some : {X Y : Type 0} → X × List Y → Bool
has_some {X} {Y} pair = nat_lt 0 (length pair.1)

-- the values of a document in the columns that have some
abbrev pub values_at : {X : Type 0} → ℕ → List (ℕ × List (ℕ × List X)) → List (ℕ × List X)
values_at {X} doc columns = filter has_some (map (λ (column : ℕ × List (ℕ × List X)). (column.0, values_of doc column.1)) columns)

-- the bytes of the term with an ordinal
abbrev pub bytes_at : List (ℕ × List ℕ) → ℕ → List ℕ
bytes_at terms ordinal = (slice_index_or terms ordinal (0, [])).1

-- the words of a document: the terms that have positions in it
abbrev pub words_at : ℕ → List TermRow → List ((ℕ × List ℕ) × List ℕ)
words_at doc rows = filter has_some (map (λ (row : TermRow). (row.term, values_of doc row.postings)) rows)

abbrev pub flat_of : Columns → ℕ → FlatDocument
flat_of columns doc = record {
  scope = position_or_len (λ set. slice_index_or set doc false) columns.scopes;
  numbers = values_at doc columns.numbers;
  keywords = map (λ (pair : ℕ × List ℕ). (pair.0, map (bytes_at (terms_of columns)) pair.1)) (values_at doc columns.ordinals);
  words = words_at doc columns.terms;
  texts = map (λ (column : ℕ × List Bool). column.0) (filter (λ (column : ℕ × List Bool). slice_index_or column.1 doc false) columns.present);
}

-- the documents, in order
abbrev pub flats_of : Columns → List FlatDocument
flats_of columns = map (flat_of columns) (range_with_len 0 columns.documents)

-- what is stored of a root
abbrev pub flat_root : Root → FlatRoot
flat_root root = record { id = root.id; number = root.number; generation = root.generation; join = root.join; source = root.source }

-- the roots, in order
abbrev pub roots_of : Columns → List FlatRoot
roots_of columns = map flat_root columns.roots
