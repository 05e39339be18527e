-- Serves proofs: the rows that hits are made of.
use Rattle.std.specs.Prelude.{◌≡◌, ℕ, ◌<◌, pos, List, length, get_or}
use Rattle.flattener.specs.StandsFor.{Marked, ViewStandsFor}
use Rattle.hit_order.specs.declared.column.RowPlace.{RowPlace}
use Rattle.mapping.specs.Mapping.{Mapping}
use Rattle.nested_sort.specs.Listed.{IsHitAt, no_hit}
use Rattle.segment.specs.Live.{EntryState}
use Rattle.tree_objects.specs.Object.{tree_of}
use Rattle.tree_objects.specs.Tree.{Tree}
use Rattle.view_objects.specs.Hits.{object_at}
use Rattle.view_objects.specs.declared.hit.Hit.{Hit}

-- the index of a hit, and the sequence number of the tree of its object
pub record IsPlaceOf (view : List EntryState) (at : ℕ) (hit : Hit) (place : RowPlace) : Type 0 where
  pub index : place.place ≡ at
  pub number : (m : Mapping) (n : ℕ) (trees : List (List (Marked Tree))) → ViewStandsFor m view trees → IsHitAt m n trees hit.place hit.doc → place.number ≡ pos (tree_of (object_at m trees hit.place hit.doc)).number

-- the first hits have their places
pub record ArePlaces (view : List EntryState) (hits : List Hit) (count : ℕ) (places : List RowPlace) : Type 0 where
  pub long : length places ≡ count
  pub each : (at : ℕ) (none : RowPlace) → at < count → IsPlaceOf view at (get_or hits at no_hit) (get_or places at none)
