-- The roots of a side by their keys, and the documents that keys lead to.
pub mod Code
use Rattle.std.specs.Prelude.{◌≡◌, ℕ, ◌<◌, ◌==◌, ◌&&◌, ◌||◌, Bool, false, List, [], ◌++◌, get_or, length, replicate, slice_get, Option, Some, None}
use Rattle.std.specs.List.{All, Contains, filter_map, list_any}
use Rattle.std.specs.List.Sorted.{IsNonDecreasingBy}
use Rattle.block_bits.specs.Blocks.{documents_of}
use Rattle.join_ordinals.specs.Ordinals.{Ordinals}
use Rattle.mapping.specs.Mapping.{Mapping, relation_at}
use Rattle.query_ast.specs.Hit.{parent_score}
use Rattle.query_ast.specs.Joined.{child_trees, roots}
use Rattle.segment.specs.Live.{EntryState}
use Rattle.segment_parts.specs.declared.columns.Columns.{Columns}
use Rattle.tree_objects.specs.Object.{Object}
use Rattle.tree_objects.specs.Tree.{Tree}
use Rattle.query_eval.specs.Folds.{scopes_in}
use Rattle.query_eval.specs.Sides.{at_roots, keys_at}
use Rattle.query_eval.specs.declared.keyed.KeyedRoot.{KeyedRoot}
use Rattle.query_eval.specs.declared.side.Side.{Side}
use Rattle.query_eval.specs.declared.side.Side.TheVariants.{Children, Parents}

-- ---- roots by keys

abbrev pub key_of : KeyedRoot → ℕ
key_of root = root.key

abbrev pub IsInKeyOrder : List KeyedRoot → Type 0
IsInKeyOrder roots = IsNonDecreasingBy key_of roots

-- the key of the root at a document of the entry at a place
abbrev pub key_of_doc : Mapping → Ordinals → Side → Columns → ℕ → ℕ → Option ℕ
key_of_doc m ordinals side columns place doc = get_or (at_roots (documents_of (scopes_in columns) 0) (keys_at m ordinals side columns place)) doc None

-- what stands for a root of an entry has its key
pub record IsOf (m : Mapping) (ordinals : Ordinals) (side : Side) (columns : Columns) (at : ℕ) (root : KeyedRoot) : Type 0 where
  pub here : root.place ≡ at
  pub low : root.doc < columns.documents
  pub key : key_of_doc m ordinals side columns at root.doc ≡ Some root.key

-- a root by its key, as it stands
abbrev pub keyed_at : ℕ → ℕ → ℕ → KeyedRoot
keyed_at key place doc = record { key = key; place = place; doc = doc }

-- to the roots are added those of an entry before a document
pub record AddsKeyed (m : Mapping) (ordinals : Ordinals) (side : Side) (columns : Columns) (at end : ℕ) (old new : List KeyedRoot) : Type 0 where
  pub added : List KeyedRoot
  pub is : new ≡ old ++ added
  pub own : All (IsOf m ordinals side columns at) added
  pub all : (doc key : ℕ) → doc < end → key_of_doc m ordinals side columns at doc ≡ Some key → Contains added (keyed_at key at doc)

pub record IsKeyed (m : Mapping) (ordinals : Ordinals) (side : Side) (view : List EntryState) (root : KeyedRoot) : Type 0 where
  pub entry : EntryState
  pub at : slice_get view root.place ≡ Some entry
  pub stands : IsOf m ordinals side entry.columns root.place root

-- the roots of the entries before a place
pub record AreKeyedTo (m : Mapping) (ordinals : Ordinals) (side : Side) (view : List EntryState) (count : ℕ) (roots : List KeyedRoot) : Type 0 where
  pub own : All (IsKeyed m ordinals side view) roots
  pub all : (place doc key : ℕ) (entry : EntryState) → place < count → slice_get view place ≡ Some entry → doc < entry.columns.documents → key_of_doc m ordinals side entry.columns place doc ≡ Some key
      → Contains roots (keyed_at key place doc)

-- All roots of a side that take part, by ascending keys.
pub record AreKeyed (m : Mapping) (ordinals : Ordinals) (side : Side) (view : List EntryState) (roots : List KeyedRoot) : Type 0 where
  pub sorted : IsInKeyOrder roots
  pub those : AreKeyedTo m ordinals side view (length view) roots

-- the roots of a child relation, and those of the relation that it has as its parent
abbrev pub AreChildRoots : Mapping → Ordinals → ℕ → List EntryState → List KeyedRoot → Type 0
AreChildRoots m ordinals child view roots = AreKeyed m ordinals (Children child) view roots

abbrev pub AreParentRoots : Mapping → Ordinals → ℕ → List EntryState → List KeyedRoot → Type 0
AreParentRoots m ordinals child view roots = (parent : ℕ) → (relation_at m child).parent ≡ Some parent → AreKeyed m ordinals (Parents parent) view roots

-- ---- documents that keys lead to

abbrev pub none_in : EntryState → List Bool
none_in entry = replicate entry.columns.documents false

abbrev pub flag_at : List (List Bool) → ℕ → ℕ → Bool
flag_at sets place doc = get_or (get_or sets place []) doc false

abbrev pub is_root_at : ℕ → ℕ → ℕ → KeyedRoot → Bool
is_root_at key place doc root = (root.key == key) && ((root.place == place) && (root.doc == doc))

-- a root with the key stands at the document
abbrev pub leads_to : List KeyedRoot → ℕ → ℕ → ℕ → Bool
leads_to roots place doc key = list_any (is_root_at key place doc) roots

abbrev pub some_leads : List KeyedRoot → List (ℕ × ℕ) → ℕ → ℕ → Bool
some_leads roots pairs place doc = list_any (λ (pair : ℕ × ℕ). leads_to roots place doc pair.0) pairs

-- to the sets are added the documents that the keys of pairs lead to
abbrev pub Led : List KeyedRoot → List (List Bool) → List (ℕ × ℕ) → List (List Bool) → Type 0
Led roots old pairs new = (place doc : ℕ) → flag_at new place doc ≡ (flag_at old place doc || some_leads roots pairs place doc)

-- the document of a root lies within the set of its entry, by the lengths of the sets
abbrev pub IsWithin : List ℕ → KeyedRoot → Type 0
IsWithin lengths root = root.doc < get_or lengths root.place 0

-- ---- what the roots are given

-- a root has a child tree by this relation whose root is given something
abbrev pub any_child_by : Mapping → ℕ → (List Tree → Object → Option ℕ) → List Tree → Object → Option ℕ
any_child_by m relation given live o = parent_score false 1 (filter_map (given live) (roots (child_trees m live relation o)))
