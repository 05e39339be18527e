-- What is tested of a segment under a mapping: the documents' scopes and their order, the roots, and the columns one by one.
use Rattle.std.specs.Prelude.{◌≡◌, ℕ, ◌<◌, ◌≤◌, ◌^◌, Bool, true, false, List, length, map, Option, slice_index, slice_index_or, vec_len}
use Rattle.std.specs.List.{All, range_with_len}
use Rattle.block_bits.specs.Blocks.{IsBlocks}
use Rattle.block_bits.specs.Seen.{scopes_seen}
use Rattle.doc_values.specs.Values.{documents}
use Rattle.flattener.specs.Fits.{IsJoinOf}
use Rattle.flattener.specs.Flat.{has_numbers, is_keyword, is_text}
use Rattle.mapping.specs.Mapping.{Mapping, around_of, included, kind_at, scope_at, shows}
use Rattle.mapping_body.specs.declared.kind.Kind.{Kind}
use Rattle.segment.specs.Flat.{flat_of}
use Rattle.segment.specs.Live.{root_of as block_root}
use Rattle.segment_parts.specs.Parts.{root_flags}
use Rattle.segment_parts.specs.declared.columns.Columns.{Columns}
use Rattle.stored_sources.specs.Roots.{root_of}
use Rattle.stored_sources.specs.declared.root.Root.{Root}
use Rattle.segment_fits.specs.declared.columns.Ground.{Ground}
use Rattle.segment_fits.specs.declared.columns.Shown.{Shown}
use Rattle.segment_fits.specs.declared.form.Form.{Form}
use Rattle.segment_fits.specs.declared.form.Form.TheVariants.{Numbers, Keywords, Words}
use Rattle.segment_fits.specs.declared.standing.Standing.{Standing}

-- ---- where a document stands

abbrev pub generation_at : Columns → ℕ → ℕ
generation_at columns doc = (root_of columns.roots (block_root (root_flags columns.scopes) doc)).generation

abbrev pub standing_of : Columns → ℕ → Standing
standing_of columns doc = record { scope = (flat_of columns doc).scope; generation = generation_at columns doc }

abbrev pub standings_of : Columns → List Standing
standings_of columns = map (standing_of columns) (range_with_len 0 columns.documents)

abbrev pub no_standing : Standing
no_standing = record { scope = 0; generation = 0 }

abbrev pub standing_at : List Standing → ℕ → Standing
standing_at standings doc = slice_index_or standings doc no_standing

-- ---- documents and roots

-- the scopes around the first ones of a mapping
abbrev pub first_parents : Mapping → ℕ → List (Option ℕ)
first_parents m count = map (around_of m) (range_with_len 0 count)

-- no more scopes than the mapping has, and the documents are blocks by these
pub record AreNested (m : Mapping) (columns : Columns) : Type 0 where
  pub few : length columns.scopes ≤ length m.scopes
  pub blocks : IsBlocks (first_parents m (length columns.scopes)) (scopes_seen columns.scopes)

-- a root's number, the generation of its mapping, and its relation in that
pub record IsRootKnown (m : Mapping) (root : Root) : Type 0 where
  pub number : root.number ≤ 2 ^ 62
  pub first : 1 ≤ root.generation
  pub last : root.generation ≤ length m.bodies
  pub join : IsJoinOf m root.generation root.join

abbrev pub AreRootsKnown : Mapping → Columns → Type 0
AreRootsKnown m columns = (root : ℕ) → root < length columns.roots → IsRootKnown m (root_of columns.roots root)

-- each document's scope is one of its generation
abbrev pub AreScopesKnown : Mapping → List Standing → Type 0
AreScopesKnown m standings = All (λ (it : Standing). (scope_at m it.scope).since ≤ it.generation) standings

-- ---- columns

abbrev pub has_form : Form → Kind → Bool
has_form Numbers = has_numbers
has_form Keywords = is_keyword
has_form Words = is_text

-- a field of the mapping whose kind has columns of the form
pub record IsField (m : Mapping) (form : Form) (field : ℕ) : Type 0 where
  pub in_range : field < length m.fields
  pub kind : has_form form (kind_at m field) ≡ true

abbrev pub IsShownTo : Mapping → ℕ → Standing → Type 0
IsShownTo m field it = shows m it.generation field it.scope ≡ true

-- the mapping's first scopes with what stands in them, and which of them include a field's values
pub record IsGround (it : Ground) : Type 0 where
  pub few : it.scopes ≤ length it.mapping.now.scopes
  pub each : All (λ (own : Standing). own.scope < it.scopes) it.standings.now

pub record IsShown (it : Shown) : Type 0 where
  pub in_range : it.field < length it.mapping.now.fields
  pub few : vec_len it.scopes ≤ length it.mapping.now.scopes
  pub included_are : it.scopes.items ≡ map (included it.mapping.now it.field) (range_with_len 0 (vec_len it.scopes))

-- each row's document shows the field
abbrev pub AreRowsShown : {X : Type 0} → Mapping → List Standing → ℕ → List (ℕ × List X) → Type 0
AreRowsShown {X} m standings field rows = (row : ℕ) → row < length rows → IsShownTo m field (standing_at standings (slice_index (documents rows) row))

-- each document with its flag set shows the field
abbrev pub AreMarksShown : Mapping → List Standing → ℕ → List Bool → Type 0
AreMarksShown m standings field flags = (doc : ℕ) → doc < length flags → slice_index_or flags doc false ≡ true → IsShownTo m field (standing_at standings doc)

pub record IsValueColumn {X : Type 0} (m : Mapping) (standings : List Standing) (form : Form) (column : ℕ × List (ℕ × List X)) : Type 0 where
  pub of_form : IsField m form column.0
  pub shown : AreRowsShown m standings column.0 column.1

pub record IsTextColumn (m : Mapping) (standings : List Standing) (column : ℕ × List Bool) : Type 0 where
  pub of_form : IsField m Words column.0
  pub shown : AreMarksShown m standings column.0 column.1

pub record AreColumnsShown (m : Mapping) (columns : Columns) (standings : List Standing) : Type 0 where
  pub numbers : All (IsValueColumn m standings Numbers) columns.numbers
  pub keywords : All (IsValueColumn m standings Keywords) columns.ordinals
  pub texts : All (IsTextColumn m standings) columns.present

-- all of it
pub record IsTested (m : Mapping) (columns : Columns) : Type 0 where
  pub roots : AreRootsKnown m columns
  pub nested : AreNested m columns
  pub scopes : AreScopesKnown m (standings_of columns)
  pub shown : AreColumnsShown m columns (standings_of columns)
