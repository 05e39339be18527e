-- When columns are those of one segment: each sentence speaks of columns alone, and of no mapping.
use Rattle.std.specs.Prelude.{◌≡◌, ℕ, ℤ, ◌<◌, ◌≤◌, ◌-◌, Bool, false, List, [], length, map, count_by, slice_get, slice_index_or, Contains, Option, Some, None, IsTrue, IsNone, IsSomeAnd}
use Rattle.std.specs.List.{All}
use Rattle.block_bits.specs.Flags.{is_marked}
use Rattle.block_bits.specs.Blocks.{HaveOneScope}
use Rattle.postings.specs.Postings.{documents}
use Rattle.doc_values.specs.Values.{values_of}
use Rattle.term_table.specs.Keys.{number_key}
use Rattle.stored_sources.specs.declared.root.Join.{Join}
use Rattle.stored_sources.specs.declared.root.Join.TheVariants.{Unjoined, Named, Child}
use Rattle.stored_sources.specs.declared.root.Root.{Root}
use Rattle.segment_parts.specs.Fields.{column_of}
use Rattle.segment_parts.specs.Lists.{terms_of, postings_of}
use Rattle.segment_parts.specs.Parts.{root_flags, AreParts}
use Rattle.segment_parts.specs.declared.columns.Columns.{Columns}

-- an id has 1 to 512 bytes
abbrev pub IsId : List ℕ → Type 0
IsId bytes = (1 ≤ length bytes) × (length bytes ≤ 512)

-- a parent's id too
abbrev pub HasParentId : Join → Type 0
HasParentId Unjoined = Unit {0}
HasParentId (Named relation) = Unit {0}
HasParentId (Child relation parent) = IsId parent

-- a root with ids, and a source of at most 16,777,216 bytes
pub record IsStored (root : Root) : Type 0 where
  pub id : IsId root.id
  pub parent : HasParentId root.join
  pub source : length root.source ≤ 16777216

-- the documents and the roots: each document is of one scope, the last document is a root, and the last scope has documents
pub record AreRooted (columns : Columns) : Type 0 where
  pub scopes : HaveOneScope columns.documents columns.scopes
  pub last : IsTrue (slice_index_or (root_flags columns.scopes) (columns.documents - 1) false)
  pub greatest : 1 ≤ count_by is_marked (slice_index_or columns.scopes (length columns.scopes - 1) [])
  pub stored : All IsStored columns.roots

-- each document of a column is one of so many
abbrev pub AreWithin : {X : Type 0} → ℕ → List (ℕ × X) → Type 0
AreWithin {X} count rows = All (λ (row : ℕ × X). row.0 < count) rows

-- the columns of fields: no field has columns of two kinds, they name documents that are there, and a text field has some
pub record HaveFields (columns : Columns) : Type 0 where
  pub ordinals_apart : All (λ (column : ℕ × List (ℕ × List ℕ)). IsNone (column_of column.0 columns.numbers) × IsNone (column_of column.0 columns.present)) columns.ordinals
  pub numbers_apart : All (λ (column : ℕ × List (ℕ × List ℤ)). IsNone (column_of column.0 columns.present)) columns.numbers
  pub ordinals_within : All (λ (column : ℕ × List (ℕ × List ℕ)). AreWithin columns.documents column.1) columns.ordinals
  pub numbers_within : All (λ (column : ℕ × List (ℕ × List ℤ)). AreWithin columns.documents column.1) columns.numbers
  pub present_some : All (λ (column : ℕ × List Bool). 1 ≤ count_by is_marked column.1) columns.present

-- a word of a text field stands in a document at one or more positions, and the document has a value of the field
pub record IsWordAt (present : List Bool) (posting : ℕ × List ℕ) : Type 0 where
  pub positions : 1 ≤ length posting.1
  pub valued : IsTrue (slice_index_or present posting.0 false)

-- another term has no positions, and each of its documents has it in the field's column
pub record IsKeywordAt (rows : List (ℕ × List ℕ)) (ordinal : ℕ) (posting : ℕ × List ℕ) : Type 0 where
  pub positions : length posting.1 ≡ 0
  pub valued : Contains (values_of posting.0 rows) ordinal

pub record IsNumberAt (rows : List (ℕ × List ℤ)) (key : List ℕ) (posting : ℕ × List ℕ) : Type 0 where
  pub positions : length posting.1 ≡ 0
  pub valued : Contains (map number_key (values_of posting.0 rows)) key

-- a term is a word, a keyword or a number, as its field's column is; a field without a column has no term
abbrev pub IsTermOf : Option (List Bool) → Option (List (ℕ × List ℕ)) → Option (List (ℕ × List ℤ)) → ℕ → List ℕ → List (ℕ × List ℕ) → Type 0
IsTermOf (Some present) rows numbers ordinal bytes postings = All (IsWordAt present) postings
IsTermOf None (Some rows) numbers ordinal bytes postings = All (IsKeywordAt rows ordinal) postings
IsTermOf None None (Some rows) ordinal bytes postings = All (IsNumberAt rows bytes) postings
IsTermOf None None None ordinal bytes postings = ⊥

-- an ordinal in a column is the place of a term of that field, one of whose documents is the row's
pub record IsOrdinalAt (terms : List (ℕ × List ℕ)) (postings : List (List (ℕ × List ℕ))) (field doc ordinal : ℕ) : Type 0 where
  pub of_field : IsSomeAnd (slice_get terms ordinal) (λ (term : ℕ × List ℕ). term.0 ≡ field)
  pub posted : Contains (documents (slice_index_or postings ordinal [])) doc

-- a number in a column stands among the terms by its key, and the row's document is one of that term's
pub record IsKeyed (terms : List (ℕ × List ℕ)) (postings : List (List (ℕ × List ℕ))) (field doc : ℕ) (number : ℤ) : Type 0 where
  pub ordinal : ℕ
  pub is : slice_get terms ordinal ≡ Some (field, number_key number)
  pub posted : Contains (documents (slice_index_or postings ordinal [])) doc

abbrev pub HaveOrdinals : List (ℕ × List ℕ) → List (List (ℕ × List ℕ)) → ℕ × List (ℕ × List ℕ) → Type 0
HaveOrdinals terms postings column =
    All (λ (row : ℕ × List ℕ). All (λ ordinal. IsOrdinalAt terms postings column.0 row.0 ordinal) row.1) column.1

abbrev pub HaveKeys : List (ℕ × List ℕ) → List (List (ℕ × List ℕ)) → ℕ × List (ℕ × List ℤ) → Type 0
HaveKeys terms postings column =
    All (λ (row : ℕ × List ℤ). All (λ number. IsKeyed terms postings column.0 row.0 number) row.1) column.1

-- a term of at most 32,766 bytes, whose documents are as the field's column says
pub record IsTermAt (columns : Columns) (ordinal : ℕ) (term : ℕ × List ℕ) : Type 0 where
  pub short : length term.1 ≤ 32766
  pub is : IsTermOf (column_of term.0 columns.present) (column_of term.0 columns.ordinals) (column_of term.0 columns.numbers) ordinal term.1 (slice_index_or (postings_of columns) ordinal [])

-- terms and the columns of fields say the same
pub record HaveTerms (columns : Columns) : Type 0 where
  pub terms : (ordinal : ℕ) (term : ℕ × List ℕ) → slice_get (terms_of columns) ordinal ≡ Some term → IsTermAt columns ordinal term
  pub ordinals : All (HaveOrdinals (terms_of columns) (postings_of columns)) columns.ordinals
  pub numbers : All (HaveKeys (terms_of columns) (postings_of columns)) columns.numbers

-- the columns can be written, and they agree
pub record AreColumns (columns : Columns) : Type 0 where
  pub parts : AreParts columns
  pub rooted : AreRooted columns
  pub fields : HaveFields columns
  pub terms : HaveTerms columns
