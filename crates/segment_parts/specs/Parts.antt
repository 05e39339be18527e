-- Columns that can be written: numbers and lengths fit their bytes, lists are in order, and the lists of one segment are as
-- long as its documents or its roots are many.
use Rattle.std.specs.Prelude.{◌≡◌, ℕ, ℤ, ◌<◌, ◌≤◌, ◌^◌, Bool, List, [], length, count_by, slice_index_or, FitsSigned}
use Rattle.std.specs.List.{All}
use Rattle.std.specs.Int.{w64}
use Rattle.std.specs.Ordering.{nat_cmp, int_cmp}
use Rattle.block_bits.specs.Flags.{is_marked}
use Rattle.stored_sources.specs.Stands.{AreRoots}
use Rattle.term_table.specs.Part.{AreRows}
use Rattle.doc_values.specs.Stands.{IsColumn}
use Rattle.doc_values.specs.Values.{IsOrdinal}
use Rattle.segment_parts.specs.Fields.{AreByField}
use Rattle.segment_parts.specs.declared.columns.Columns.{Columns}

-- whether each document is a root, by the documents of each scope
abbrev pub root_flags : List (List Bool) → List Bool
root_flags scopes = slice_index_or scopes 0 []

-- one document and one scope or more, each scope with a flag for each document
pub record IsHead (documents : ℕ) (scopes : List (List Bool)) : Type 0 where
  pub numbered : documents < 2 ^ 32
  pub some_documents : 1 ≤ documents
  pub some : 1 ≤ length scopes
  pub fewer : length scopes < 2 ^ 32
  pub long : All (λ (flags : List Bool). length flags ≡ documents) scopes

-- a text field with a flag for each document
pub record IsPresence (documents : ℕ) (column : ℕ × List Bool) : Type 0 where
  pub field : column.0 < 2 ^ 32
  pub long : length column.1 ≡ documents

abbrev pub IsOrdinalColumn : ℕ × List (ℕ × List ℕ) → Type 0
IsOrdinalColumn = IsColumn nat_cmp IsOrdinal

abbrev pub IsNumberColumn : ℕ × List (ℕ × List ℤ) → Type 0
IsNumberColumn = IsColumn int_cmp (FitsSigned w64)

pub record AreParts (columns : Columns) : Type 0 where
  pub head : IsHead columns.documents columns.scopes
  pub roots_are : AreRoots columns.roots
  pub rooted : length columns.roots ≡ count_by is_marked (root_flags columns.scopes)
  pub terms_are : AreRows columns.terms
  pub ordinals_are : AreByField IsOrdinalColumn columns.ordinals
  pub numbers_are : AreByField IsNumberColumn columns.numbers
  pub present_are : AreByField (IsPresence columns.documents) columns.present
