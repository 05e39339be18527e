-- Entries whose segments are those of their sources.
use Rattle.std.specs.Prelude.{◌≡◌, ◌≤◌, ◌^◌, List, map, None}
use Rattle.std.specs.List.{AllByRecursion}
use Rattle.flattener.specs.Block.{block_refusal}
use Rattle.flattener.specs.Fits.{IsGiven}
use Rattle.flattener.specs.StandsFor.{Marked}
use Rattle.mapping.specs.Mapping.{Mapping}
use Rattle.segment.specs.Live.{EntryState}
use Rattle.segment_builder.specs.Blocks.{blocks_in, block_of_marked}
use Rattle.tree_json.specs.Reading.{reading, value}
use Rattle.tree_json.specs.Text.{compact}
use Rattle.tree_objects.specs.Tree.{Tree}

-- a tree that can have been indexed: its id, its source, a JSON object that isn't too long, a generation that the mapping has
-- had, and a number of which another follows; the source is read back from its compact text, has no fault under the tree's
-- generation, and not too many nested objects
pub record IsSound (m : Mapping) (tree : Tree) : Type 0 where
  pub given : IsGiven m tree
  pub number : tree.number ≤ 2 ^ 62
  pub reads : reading (compact tree.source) ≡ value tree.source
  pub accepted : block_refusal m tree ≡ None

-- the blocks of an entry, dead ones too, are those of such trees, each live where its tree is marked live
pub record IsHeld (m : Mapping) (entry : EntryState) : Type 0 where
  pub trees : List (Marked Tree)
  pub sound : AllByRecursion (λ (tree : Marked Tree). IsSound m tree.item) trees
  pub blocks : blocks_in entry ≡ map (block_of_marked m) trees
