-- What columns have at each key: just what the entries of documents carry there.
use Rattle.std.specs.Prelude.{◌≡◌, ℕ, ℤ, ◌-◌, ◌<◌, Bool, List, [], length, map, Contains, Option, if◌then◌else◌}
use Rattle.std.specs.List.{All, flat_map, range_with_len}
use Rattle.std.specs.Ordering.{nat_cmp}
use Rattle.block_bits.specs.Blocks.{documents_of}
use Rattle.flattener.specs.Flat.{is_keyword, is_text}
use Rattle.mapping_body.specs.declared.kind.Kind.{Kind}
use Rattle.segment.specs.Flat.{FlatDocument}
use Rattle.segment_parts.specs.Lists.{terms_of}
use Rattle.segment_parts.specs.Text.{marked_places}
use Rattle.segment_parts.specs.declared.columns.Columns.{Columns}
use Rattle.term_table.specs.Keys.{number_key}
use Rattle.term_table.specs.Terms.{term_cmp}
use Rattle.segment_builder.specs.Columns.{column_terms, named_row}
use Rattle.segment_builder.specs.Entries.{EntriesState}
use Rattle.segment_builder.specs.Groups.{AreOrdered, in_groups, of_key}
use Rattle.segment_builder.specs.Made.{all_terms, marked_groups}
use Rattle.segment_builder.specs.Terms.{once, row_group}

-- terms with their postings, numbers, keywords as terms of their fields, and the documents of text fields
pub record HaveAtKeys (it : EntriesState) (terms : List ((ℕ × List ℕ) × List (ℕ × List ℕ))) (numbers : List (ℕ × List (ℕ × List ℤ))) (keywords : List (ℕ × List (ℕ × List (Option (ℕ × List ℕ))))) (texts : List (ℕ × List ℕ)) : Type 0 where
  pub terms_are : (term : ℕ × List ℕ) → in_groups term_cmp term terms ≡ of_key term_cmp term (all_terms it)
  pub numbers_are : (field : ℕ) → in_groups nat_cmp field numbers ≡ of_key nat_cmp field it.numbers
  pub keywords_are : (field : ℕ) → in_groups nat_cmp field keywords ≡ map (named_row field) (of_key nat_cmp field it.keywords)
  pub texts_are : (field : ℕ) → in_groups nat_cmp field texts ≡ of_key nat_cmp field it.texts

-- a text field with its documents
abbrev pub marked_docs : ℕ × List Bool → ℕ × List ℕ
marked_docs column = (column.0, marked_places 0 column.1)

-- columns say so of entries
abbrev pub SayAtKeys : EntriesState → Columns → Type 0
SayAtKeys it columns = HaveAtKeys it (map row_group columns.terms) columns.numbers (map (column_terms (terms_of columns)) columns.ordinals) (map marked_docs columns.present)

-- ---- the terms of one document

-- terms of a field without positions
abbrev pub bare_terms : ℕ → List (List ℕ) → List ((ℕ × List ℕ) × List ℕ)
bare_terms field values = map (λ bytes. ((field, bytes), [])) values

abbrev pub keywords_bare : FlatDocument → List ((ℕ × List ℕ) × List ℕ)
keywords_bare flat = flat_map (λ (entry : ℕ × List (List ℕ)). bare_terms entry.0 (once entry.1)) flat.keywords

abbrev pub numbers_bare : FlatDocument → List ((ℕ × List ℕ) × List ℕ)
numbers_bare flat = flat_map (λ (entry : ℕ × List ℤ). bare_terms entry.0 (once (map number_key entry.1))) flat.numbers

-- those of fields of a kind: words with their positions, keywords and the keys of numbers each once
abbrev pub terms_of_kind : Kind → FlatDocument → List ((ℕ × List ℕ) × List ℕ)
terms_of_kind kind flat = if is_text kind then flat.words else if is_keyword kind then keywords_bare flat else numbers_bare flat

-- ---- columns that are put together by key

-- columns whose sets are those of the documents' scopes, whose groups are in order, and which have at each key what the
-- documents carry there
pub record AreByKey (it : EntriesState) (columns : Columns) : Type 0 where
  pub documents : columns.documents ≡ length it.scopes
  pub scopes : columns.scopes ≡ map (documents_of it.scopes) (range_with_len 0 (length columns.scopes))
  pub within : All (λ scope. scope < length columns.scopes) it.scopes
  pub greatest : 0 < length it.scopes → Contains it.scopes (length columns.scopes - 1)
  pub texts : List (ℕ × List ℕ)
  pub present : columns.present ≡ marked_groups columns.documents texts
  pub keys : HaveAtKeys it (map row_group columns.terms) columns.numbers (map (column_terms (terms_of columns)) columns.ordinals) texts
  pub terms_ordered : AreOrdered term_cmp (map row_group columns.terms)
  pub numbers_ordered : AreOrdered nat_cmp columns.numbers
  pub keywords_ordered : AreOrdered nat_cmp (map (column_terms (terms_of columns)) columns.ordinals)
  pub texts_ordered : AreOrdered nat_cmp texts
