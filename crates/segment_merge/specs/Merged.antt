-- What the columns of a merged segment say, by the columns of the entries that it is merged of: their live documents one
-- behind the other, each with its new number, put together by field and by term.
use Rattle.std.specs.Prelude.{◌≡◌, ℕ, ℤ, ◌+◌, ◌-◌, ◌<◌, Bool, false, cond, List, [], ◌∷◌, ◌++◌, length, map, take, count_by, sum_by, slice_index_or, Contains, Option}
use Rattle.std.specs.List.{All, flat_map, range_with_len}
use Rattle.std.specs.Ordering.{nat_cmp}
use Rattle.std.specs.declared.cmp.Ordering.{Ordering}
use Rattle.block_bits.specs.Blocks.{documents_of}
use Rattle.block_bits.specs.Flags.{is_marked}
use Rattle.segment.specs.Flat.{FlatDocument, flats_of}
use Rattle.segment.specs.Live.{EntryState}
use Rattle.segment_parts.specs.Lists.{terms_of}
use Rattle.segment_parts.specs.Text.{marked_places}
use Rattle.segment_parts.specs.declared.columns.Columns.{Columns}
use Rattle.segment_builder.specs.Columns.{column_terms}
use Rattle.segment_builder.specs.Groups.{AreOrdered, in_groups}
use Rattle.segment_builder.specs.Made.{marked_groups}
use Rattle.segment_builder.specs.Terms.{row_group}
use Rattle.stored_sources.specs.declared.root.Root.{Root}
use Rattle.term_table.specs.Terms.{term_cmp}

-- ---- documents and their new numbers

-- of a list, what stands where a flag is set
abbrev pub where_marked : {X : Type 0} → List Bool → List X → List X
where_marked [] items = []
where_marked (flag ∷ flags) [] = []
where_marked (flag ∷ flags) (item ∷ items) = cond flag (item ∷ where_marked flags items) (where_marked flags items)

-- how many documents of an entry are live, and of entries
abbrev pub live_count : EntryState → ℕ
live_count entry = count_by is_marked entry.live.docs

abbrev pub live_count_of : List EntryState → ℕ
live_count_of entries = sum_by live_count entries

-- the new number of a live document: the live documents before it, `base` of which stand in entries before
abbrev pub renumbered : ℕ → List Bool → ℕ → ℕ
renumbered base live doc = base + count_by is_marked (take doc live)

-- what all entries give, where each is told how many live documents stand before it
abbrev pub from_each : {X : Type 0} → (ℕ → EntryState → List X) → ℕ → List EntryState → List X
from_each get base [] = []
from_each get base (entry ∷ entries) = get base entry ++ from_each get (base + live_count entry) entries

-- the scopes of live documents
abbrev pub live_scopes_in : EntryState → List ℕ
live_scopes_in entry = where_marked entry.live.docs (map (λ (flat : FlatDocument). flat.scope) (flats_of entry.columns))

abbrev pub live_scopes : List EntryState → List ℕ
live_scopes entries = flat_map live_scopes_in entries

-- the live roots
abbrev pub live_roots_in : EntryState → List Root
live_roots_in entry = where_marked entry.live.roots entry.columns.roots

abbrev pub live_roots : List EntryState → List Root
live_roots entries = flat_map live_roots_in entries

-- ---- rows of live documents

-- rows, those of live documents alone, with the new numbers of these
abbrev pub kept : {X : Type 0} → ℕ → List Bool → List (ℕ × X) → List (ℕ × X)
kept base live [] = []
kept base live (row ∷ rows) = cond (slice_index_or live row.0 false) ((renumbered base live row.0, row.1) ∷ kept base live rows) (kept base live rows)

-- the same of documents alone
abbrev pub kept_places : ℕ → List Bool → List ℕ → List ℕ
kept_places base live [] = []
kept_places base live (doc ∷ docs) = cond (slice_index_or live doc false) (renumbered base live doc ∷ kept_places base live docs) (kept_places base live docs)

-- and of rows by key
abbrev pub kept_columns : {K X : Type 0} → ℕ → List Bool → List (K × List (ℕ × X)) → List (K × List (ℕ × X))
kept_columns {K} {X} base live columns = map (λ (column : K × List (ℕ × X)). (column.0, kept base live column.1)) columns

abbrev pub kept_terms : ℕ → EntryState → List ((ℕ × List ℕ) × List (ℕ × List ℕ))
kept_terms base entry = kept_columns base entry.live.docs (map row_group entry.columns.terms)

abbrev pub kept_numbers : ℕ → EntryState → List (ℕ × List (ℕ × List ℤ))
kept_numbers base entry = kept_columns base entry.live.docs entry.columns.numbers

-- ordinals differ from segment to segment: their terms don't
abbrev pub kept_keywords : ℕ → EntryState → List (ℕ × List (ℕ × List (Option (ℕ × List ℕ))))
kept_keywords base entry = kept_columns base entry.live.docs (map (column_terms (terms_of entry.columns)) entry.columns.ordinals)

abbrev pub kept_texts : ℕ → EntryState → List (ℕ × List ℕ)
kept_texts base entry = map (λ (column : ℕ × List Bool). (column.0, kept_places base entry.live.docs (marked_places 0 column.1))) entry.columns.present

-- ---- put together

-- Lists put together by key: by strictly ascending key, none of them empty, and at each key what the parts have there, in
-- their order.
pub record IsGathered {K P : Type 0} (cmp : K → K → Ordering) (parts groups : List (K × List P)) : Type 0 where
  pub ordered : AreOrdered cmp groups
  pub same : (key : K) → in_groups cmp key groups ≡ in_groups cmp key parts

-- the columns of the segment that is merged of entries
pub record IsMerged (entries : List EntryState) (columns : Columns) : Type 0 where
  pub documents : columns.documents ≡ live_count_of entries
  pub scopes : columns.scopes ≡ map (documents_of (live_scopes entries)) (range_with_len 0 (length columns.scopes))
  pub within : All (λ scope. scope < length columns.scopes) (live_scopes entries)
  pub greatest : 0 < length (live_scopes entries) → Contains (live_scopes entries) (length columns.scopes - 1)
  pub roots : columns.roots ≡ live_roots entries
  pub terms : IsGathered term_cmp (from_each kept_terms 0 entries) (map row_group columns.terms)
  pub numbers : IsGathered nat_cmp (from_each kept_numbers 0 entries) columns.numbers
  pub ordinals : IsGathered nat_cmp (from_each kept_keywords 0 entries) (map (column_terms (terms_of columns)) columns.ordinals)
  pub texts : List (ℕ × List ℕ)
  pub text_groups : IsGathered nat_cmp (from_each kept_texts 0 entries) texts
  pub present : columns.present ≡ marked_groups columns.documents texts
