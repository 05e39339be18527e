-- Serves proofs: the keys of documents, by what flat documents show.
use Rattle.std.specs.Prelude.{◌≡◌, ℕ, ℤ, pos, Bool, true, false, List, [], ◌∷◌, map, slice_get, Option, IsSomeAnd, ⊤}
use Rattle.std.specs.List.{flat_map, AllByRecursion}
use Rattle.std.specs.Option.{option_map_or}
use Rattle.block_bits.specs.Blocks.{documents_of}
use Rattle.doc_values.specs.Values.{values_of}
use Rattle.flattener.specs.Flat.{is_keyword}
use Rattle.hit_order.specs.declared.column.RowPlace.{RowPlace}
use Rattle.mapping.specs.Mapping.{Mapping, kind_at}
use Rattle.query_ast.specs.SortKey.{key_or_missing, mode_value}
use Rattle.query_ast.specs.declared.sort.Chain.{Chain}
use Rattle.query_ast.specs.declared.sort.Key.{Key}
use Rattle.query_ast.specs.declared.sort.Key.TheVariants.{Null as NoKey, Number as NumberKey}
use Rattle.query_ast.specs.declared.sort.Missing.{Missing}
use Rattle.query_ast.specs.declared.sort.Missing.TheVariants.{Last, First, Given}
use Rattle.query_ast.specs.declared.sort.Sort.{Sort}
use Rattle.query_ast.specs.declared.sort.SortKey.{SortKey}
use Rattle.query_ast.specs.declared.sort.SortKey.TheVariants.{Score, Field}
use Rattle.query_ast.specs.declared.sort.SortMode.{SortMode}
use Rattle.query_eval.specs.Folds.{scopes_in}
use Rattle.query_eval.specs.Found.{AreLong}
use Rattle.segment.specs.Flat.{bytes_at, flat_of}
use Rattle.segment.specs.Shows.{column_values}
use Rattle.segment.specs.Live.{EntryState, root_of as block_root}
use Rattle.segment_parts.specs.Fields.{column_of}
use Rattle.segment_parts.specs.declared.columns.Columns.{Columns}
use Rattle.stored_sources.specs.Roots.{root_of}
use Rattle.tree_objects.specs.declared.field_value.FieldValue.{FieldValue}
use Rattle.tree_objects.specs.declared.field_value.FieldValue.TheVariants.{Number, Written}
use Rattle.view_objects.specs.declared.hit.Hit.{Hit}
use Rattle.nested_sort.specs.Inside.{behind_chain, chain_docs}
use Rattle.nested_sort.specs.declared.asked.Asked.{Asked}

-- ---- values

abbrev pub numbers_at : Columns → ℕ → ℕ → List ℤ
numbers_at columns f doc = values_of f (flat_of columns doc).numbers

abbrev pub texts_at : Columns → ℕ → ℕ → List (List ℕ)
texts_at columns f doc = values_of f (flat_of columns doc).keywords

-- the ordinals of its texts in a segment
abbrev pub ordinals_at : Columns → ℕ → ℕ → List ℕ
ordinals_at columns f doc = column_values doc (column_of f columns.ordinals)

abbrev pub number_value : ℤ → FieldValue
number_value z = Number z

abbrev pub text_value : List ℕ → FieldValue
text_value s = Written s

-- texts, or numbers
abbrev pub values_at : Bool → Columns → ℕ → ℕ → List FieldValue
values_at true columns f doc = map text_value (texts_at columns f doc)
values_at false columns f doc = map number_value (numbers_at columns f doc)

-- what a clause asks of a field: the filters of its chain come first among those that are left
pub record Question : Type 0 where
  pub field : ℕ
  pub mode : SortMode
  pub chain : List Chain
  pub filters : List (List (List (Option ℕ)))
  pub scope : ℕ
  pub missing : Missing

abbrev pub question_of : Asked → Question
question_of asked = record {
  field = asked.field;
  mode = asked.mode;
  chain = asked.chain.now;
  filters = asked.filters.now;
  scope = asked.scope;
  missing = asked.missing.now;
}

-- the documents that the chain leads to from one of the entry at a place
abbrev pub docs_inside : Columns → ℕ → Question → ℕ → List ℕ
docs_inside columns place q doc = chain_docs place (scopes_in columns) q.chain q.filters q.scope doc

-- ---- keys

-- what is given for a missing key is of the field's kind
abbrev pub IsGivenAs : Bool → Missing → Type 0
IsGivenAs written Last = ⊤
IsGivenAs written First = ⊤
IsGivenAs written (Given (Number z)) = written ≡ false
IsGivenAs written (Given (Written s)) = written ≡ true

abbrev pub key_in : Bool → Columns → ℕ → Question → ℕ → Key
key_in written columns place q doc =
    key_or_missing q.missing (mode_value q.mode (flat_map (values_at written columns q.field) (docs_inside columns place q doc)))

-- a hit in no entry has no key
abbrev pub key_of_hit : Bool → List EntryState → Question → Hit → Key
key_of_hit written view q hit = option_map_or (λ (entry : EntryState). key_in written entry.columns hit.place q hit.doc) (slice_get view hit.place) NoKey

abbrev pub score_key : Hit → Key
score_key hit = NumberKey (pos hit.score)

-- the key of a hit for one clause, where these filters are left
abbrev pub clause_key : Mapping → List EntryState → ℕ → List (List (List (Option ℕ))) → Missing → SortKey → Hit → Key
clause_key m view n filters missing Score = score_key
clause_key m view n filters missing (Field f mode chain) =
    key_of_hit (is_keyword (kind_at m f)) view (record { field = f; mode = mode; chain = chain; filters = filters; scope = n; missing = missing })

abbrev pub clause_keys : Mapping → List EntryState → List Hit → ℕ → List (List (List (Option ℕ))) → Missing → SortKey → List Key
clause_keys m view hits n filters missing key = map (clause_key m view n filters missing key) hits

abbrev pub behind_key : SortKey → List (List (List (Option ℕ))) → List (List (List (Option ℕ)))
behind_key Score filters = filters
behind_key (Field f mode chain) filters = behind_chain chain filters

-- those of all clauses
abbrev pub all_keys : Mapping → List EntryState → List Hit → ℕ → List Sort → List (List (List (Option ℕ))) → List (List Key)
all_keys m view hits n [] filters = []
all_keys m view hits n (sort ∷ sorts) filters = clause_keys m view hits n filters sort.missing sort.key ∷ all_keys m view hits n sorts (behind_key sort.key filters)

-- ---- what is asked of filters and of hits

-- each filter has scores for the entries and documents of the view
abbrev pub AllLong : List EntryState → List (List (List (Option ℕ))) → Type 0
AllLong view filters = AllByRecursion (AreLong view) filters

-- ---- places

-- the sequence number of the root of a document's block
abbrev pub number_in : Columns → ℕ → ℕ
number_in columns doc = (root_of columns.roots (block_root (documents_of (scopes_in columns) 0) doc)).number

abbrev pub number_of_hit : List EntryState → Hit → ℕ
number_of_hit view hit = option_map_or (λ (entry : EntryState). number_in entry.columns hit.doc) (slice_get view hit.place) 0

abbrev pub place_of_hit : List EntryState → Hit → RowPlace
place_of_hit view hit = record { place = hit.place; doc = hit.doc; number = pos (number_of_hit view hit) }

-- an ordinal is the place of a term of the field
abbrev pub IsTermOf : List (ℕ × List ℕ) → ℕ → ℕ → Type 0
IsTermOf terms f ordinal = IsSomeAnd (slice_get terms ordinal) (λ (term : ℕ × List ℕ). term.0 ≡ f)

-- the text of the term with an ordinal
abbrev pub term_value : List (ℕ × List ℕ) → ℕ → FieldValue
term_value terms ordinal = Written (bytes_at terms ordinal)
