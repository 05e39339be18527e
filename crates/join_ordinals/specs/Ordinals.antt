-- Which ids the live roots of a view have, and what it is to number them.
use Rattle.std.specs.Prelude.{ℕ, ◌≡◌, ⊤, List, length, if◌then◌else◌, slice_get, Option, Some, None}
use Rattle.segment.specs.Live.{EntryState}
use Rattle.segment_view.specs.Views.{is_live_root}
use Rattle.stored_sources.specs.Roots.{root_of}
use Rattle.stored_sources.specs.declared.root.Join.{Join}
use Rattle.stored_sources.specs.declared.root.Join.TheVariants.{Unjoined, Named, Child}

-- ---- ids

-- the id of a root of an entry, if it is live
abbrev pub own_id : EntryState → ℕ → Option (List ℕ)
own_id entry root = if is_live_root root entry then Some (root_of entry.columns.roots root).id else None

-- the id of the parent that a join value names
abbrev pub parent_in : Join → Option (List ℕ)
parent_in Unjoined = None
parent_in (Named relation) = None
parent_in (Child relation parent) = Some parent

-- the id of a live root's parent; the parent itself need not be there
abbrev pub parent_id : EntryState → ℕ → Option (List ℕ)
parent_id entry root = if is_live_root root entry then parent_in (root_of entry.columns.roots root).join else None

-- the relation that a join value names
abbrev pub relation_in : Join → Option ℕ
relation_in Unjoined = None
relation_in (Named relation) = Some relation
relation_in (Child relation parent) = Some relation

-- that of a live root
abbrev pub own_relation : EntryState → ℕ → Option ℕ
own_relation entry root = if is_live_root root entry then relation_in (root_of entry.columns.roots root).join else None

-- ---- ordinals, by the entry and the root

-- how many ids there are, the ordinals of roots and of their parents, and the relations of roots, a row for each entry
pub record Ordinals : Type 0 where
  pub count : ℕ
  pub own : List (List (Option ℕ))
  pub parents : List (List (Option ℕ))
  pub relations : List (List (Option ℕ))

abbrev pub flat : Option (Option ℕ) → Option ℕ
flat None = None
flat (Some ordinal) = ordinal

abbrev pub ordinal_in : Option (List (Option ℕ)) → ℕ → Option ℕ
ordinal_in None root = None
ordinal_in (Some row) root = flat (slice_get row root)

-- the ordinal of a root of the entry at a place
abbrev pub ordinal_at : List (List (Option ℕ)) → ℕ → ℕ → Option ℕ
ordinal_at rows place root = ordinal_in (slice_get rows place) root

-- ---- a numbering

-- an id's ordinal is its index among all ids, and what has no id has none
abbrev pub IsNumbered : List (List ℕ) → Option (List ℕ) → Option ℕ → Type 0
IsNumbered ids None None = ⊤
IsNumbered ids None (Some ordinal) = ⊥
IsNumbered ids (Some id) None = ⊥
IsNumbered ids (Some id) (Some ordinal) = slice_get ids ordinal ≡ Some id

-- the roots of each entry are numbered
pub record AreRows (ids : List (List ℕ)) (id_of : EntryState → ℕ → Option (List ℕ)) (view : List EntryState) (rows : List (List (Option ℕ))) : Type 0 where
  pub entries : length rows ≡ length view
  pub numbered : (place root : ℕ) (entry : EntryState) → slice_get view place ≡ Some entry → IsNumbered ids (id_of entry root) (ordinal_at rows place root)

-- the relation of each root of each entry
pub record AreRelations (view : List EntryState) (rows : List (List (Option ℕ))) : Type 0 where
  pub entries : length rows ≡ length view
  pub known : (place root : ℕ) (entry : EntryState) → slice_get view place ≡ Some entry → ordinal_at rows place root ≡ own_relation entry root

-- no id stands twice
abbrev pub StandOnce : List (List ℕ) → Type 0
StandOnce ids = (i j : ℕ) (id : List ℕ) → slice_get ids i ≡ Some id → slice_get ids j ≡ Some id → i ≡ j

-- Ordinals of a view: there are ids, none of them twice, and each ordinal is the index of its id among them. So two
-- ordinals are equal exactly where the ids are, over all entries. Each live root has its relation.
pub record AreOrdinals (view : List EntryState) (ordinals : Ordinals) : Type 0 where
  pub ids : List (List ℕ)
  pub once : StandOnce ids
  pub count : length ids ≡ ordinals.count
  pub own : AreRows ids own_id view ordinals.own
  pub parents : AreRows ids parent_id view ordinals.parents
  pub relations : AreRelations view ordinals.relations
