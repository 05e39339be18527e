-- Roots of a view whose trees are live, and keys that are one.
use Rattle.std.specs.Prelude.{◌≡◌, ℕ, ◌==◌, Bool, true, false, List, slice_get, Option, Some, None}
use Rattle.flattener.specs.StandsFor.{EntryStandsFor, Marked}
use Rattle.mapping.specs.Mapping.{Mapping}
use Rattle.segment.specs.Live.{EntryState}
use Rattle.tree_objects.specs.Tree.{Tree}

-- the tree is that of a live root of the entry at a place
pub record IsLiveRoot (m : Mapping) (view : List EntryState) (place root : ℕ) (tree : Tree) : Type 0 where
  pub entry : EntryState
  pub trees : List (Marked Tree)
  pub at : slice_get view place ≡ Some entry
  pub stands : EntryStandsFor m entry.columns entry.live trees
  pub tree_at : slice_get trees root ≡ Some (record { item = tree; live = true })

-- there are both keys, and they are the same
abbrev pub meet : Option ℕ → Option ℕ → Bool
meet None other = false
meet (Some one) None = false
meet (Some one) (Some other) = other == one
