-- When a block, a segment and a view are ones that a mapping can have made: what calls ask of them that take a mapping
-- beside them.
use Rattle.std.specs.Prelude.{◌≡◌, ◌==◌, ℕ, ◌+◌, ◌<◌, ◌≤◌, ◌^◌, Bool, true, List, [], ◌∷◌, length, map, filter, count_by, Option, None}
use Rattle.std.specs.List.{All, flat_map, range_with_len}
use Rattle.block_bits.specs.Blocks.{IsBlocks}
use Rattle.block_bits.specs.Flags.{is_marked}
use Rattle.mapping_body.specs.declared.kind.Kind.{Kind}
use Rattle.mapping.specs.Mapping.{Mapping, kind_at, scope_at, around_of, shows, knows_relation}
use Rattle.segment.specs.Agree.{IsId, HasParentId}
use Rattle.segment.specs.Flat.{FlatDocument, FlatRoot, flats_of, roots_of}
use Rattle.segment.specs.Live.{EntryState, IsLiveOver}
use Rattle.segment_parts.specs.declared.columns.Columns.{Columns}
use Rattle.stored_sources.specs.declared.root.Join.{Join}
use Rattle.stored_sources.specs.declared.root.Join.TheVariants.{Unjoined, Named, Child}
use Rattle.tree_json.specs.Text.{compact}
use Rattle.tree_json.specs.Value.{JsonValue, is_object}
use Rattle.tree_objects.specs.Tree.{Tree}
use Rattle.flattener.specs.Block.{BlockState, block_of, block_refusal}
use Rattle.flattener.specs.Flat.{has_numbers, is_keyword, is_text}

-- ---- a block

-- a source is a JSON object whose compact text has at most so many bytes
abbrev pub most_source : ℕ
most_source = 16_777_216

abbrev pub IsSource : JsonValue → Type 0
IsSource source = (is_object source ≡ true) × (length (compact source) ≤ most_source)

-- what `block` asks of a tree: its id, an object as its source, and a generation that the mapping has had
pub record IsTreeUnder (m : Mapping) (tree : Tree) : Type 0 where
  pub id : IsId tree.id
  pub object : is_object tree.source ≡ true
  pub first : 1 ≤ tree.generation
  pub last : tree.generation ≤ length m.bodies

-- such a tree, of a source that is short enough
pub record IsGiven (m : Mapping) (tree : Tree) : Type 0 where
  pub id : IsId tree.id
  pub source : IsSource tree.source
  pub first : 1 ≤ tree.generation
  pub last : tree.generation ≤ length m.bodies

-- the block of a tree that isn't refused
pub record BlockFits (m : Mapping) (block : BlockState) : Type 0 where
  pub tree : Tree
  pub given : IsGiven m tree
  pub accepted : block_refusal m tree ≡ None
  pub number : tree.number ≤ 2 ^ 62
  pub is : block ≡ block_of m tree

-- ---- a segment

-- a field of the generation, of a kind that has columns of a form, and shown in the scope
pub record IsFieldAt (m : Mapping) (g : ℕ) (test : Kind → Bool) (n f : ℕ) : Type 0 where
  pub in_range : f < length m.fields
  pub kind : test (kind_at m f) ≡ true
  pub shown : shows m g f n ≡ true

-- a document has a scope of the generation, and values of fields that are shown there, each as its kind has them
pub record IsDocument (m : Mapping) (g : ℕ) (flat : FlatDocument) : Type 0 where
  pub scope : flat.scope < length m.scopes
  pub known : (scope_at m flat.scope).since ≤ g
  pub numbers : All (λ field. IsFieldAt m g has_numbers flat.scope field.0) flat.numbers
  pub keywords : All (λ field. IsFieldAt m g is_keyword flat.scope field.0) flat.keywords
  pub words : All (λ word. IsFieldAt m g is_text flat.scope word.0.0) flat.words
  pub texts : All (λ f. IsFieldAt m g is_text flat.scope f) flat.texts

pub record IsRelation (m : Mapping) (g r : ℕ) : Type 0 where
  pub in_range : r < length m.relations
  pub known : knows_relation m g r ≡ true

abbrev pub IsJoinOf : Mapping → ℕ → Join → Type 0
IsJoinOf m g Unjoined = Unit {0}
IsJoinOf m g (Named r) = IsRelation m g r
IsJoinOf m g (Child r parent) = IsRelation m g r

-- the scope around each scope, by its number
abbrev pub parents_of : Mapping → List (Option ℕ)
parents_of m = map (around_of m) (range_with_len 0 (length m.scopes))

abbrev pub is_root : FlatDocument → Bool
is_root flat = flat.scope == 0

-- a root with the documents of its block, all under the mapping generation of the root: the last of them is its own, and
-- no other stands at the root's scope
pub record IsRootOf (m : Mapping) (root : FlatRoot) (flats : List FlatDocument) : Type 0 where
  pub id : IsId root.id
  pub parent : HasParentId root.join
  pub number : root.number ≤ 2 ^ 62
  pub first : 1 ≤ root.generation
  pub last : root.generation ≤ length m.bodies
  pub join : IsJoinOf m root.generation root.join
  pub source : (value : JsonValue) × IsSource value × (root.source ≡ compact value)
  pub documents : All (IsDocument m root.generation) flats
  pub nested : IsBlocks (parents_of m) (map (λ (flat : FlatDocument). flat.scope) flats)
  pub one_root : length (filter is_root flats) ≡ 1

-- each root with its own documents, in order
abbrev pub AreRootsOf : Mapping → List FlatRoot → List (List FlatDocument) → Type 0
AreRootsOf m [] [] = Unit {0}
AreRootsOf m [] (flats ∷ more) = ⊥
AreRootsOf m (root ∷ roots) [] = ⊥
AreRootsOf m (root ∷ roots) (flats ∷ more) = IsRootOf m root flats × AreRootsOf m roots more

-- the documents are blocks, one of each root
pub record SegmentFits (m : Mapping) (columns : Columns) : Type 0 where
  pub blocks : List (List FlatDocument)
  pub flats : flats_of columns ≡ flat_map (λ (flats : List FlatDocument). flats) blocks
  pub roots : AreRootsOf m (roots_of columns) blocks

-- ---- a view

-- at most 2^26 live objects are searched at once
abbrev pub most_live : ℕ
most_live = 67_108_864

abbrev pub live_in : EntryState → ℕ
live_in entry = count_by is_marked entry.live.docs

pub record EntryFits (m : Mapping) (entry : EntryState) : Type 0 where
  pub segment : SegmentFits m entry.columns
  pub live : IsLiveOver entry.columns entry.live
  pub few : live_in entry ≤ most_live

abbrev pub live_count : List EntryState → ℕ
live_count [] = 0
live_count (entry ∷ entries) = live_in entry + live_count entries

pub record ViewFits (m : Mapping) (entries : List EntryState) : Type 0 where
  pub each : All (EntryFits m) entries
  pub few : live_count entries ≤ most_live
