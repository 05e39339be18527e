-- The states of the machine that an index of blocks may stand for.
use Rattle.std.specs.Prelude.{◌≡◌, List, map, Option, Some, None}
use Rattle.std.specs.List.{AllZip, flat_map}
use Rattle.flattener.specs.Block.{BlockState, block_of}
use Rattle.flattener.specs.Fits.{IsGiven}
use Rattle.index_core.specs.Kept.{IndexState, layout_kept, segments_kept}
use Rattle.layout.specs.As.{layout_as, segment_as}
use Rattle.layout.specs.Layout.{Layout, SegmentOf, empty_layout, live_in}
use Rattle.machine.specs.State.{PointInTime, PointsInTime, State, IsLaid, IsNumbered}
use Rattle.machine.specs.State as state
use Rattle.mapping.specs.Mapping.{Mapping}
use Rattle.point_in_time.specs.Points.{KeptPoint, KeptPoints, no_points}
use Rattle.segment.specs.Live.{EntryState}
use Rattle.tree_json.specs.Reading.{reading, value}
use Rattle.tree_json.specs.Text.{compact}
use Rattle.tree_objects.specs.Tree.{IsLiveList, Tree}

-- a tree that was indexed under the mapping, whose source is read back from its compact text
pub record Indexed (m : Mapping) : Type 0 where
  pub tree : Tree
  pub given : IsGiven m tree
  pub reads : reading (compact tree.source) ≡ value tree.source

abbrev pub tree_in : (m : Mapping) → Indexed m → Tree
tree_in m it = it.tree

abbrev pub block_in : (m : Mapping) → Indexed m → BlockState
block_in m it = block_of m it.tree

-- The blocks that are kept are those of the trees, item by item, dead ones among them.
pub record StandsFor (m : Mapping) (kept : Layout BlockState) (layout : Layout Tree) : Type 0 where
  pub indexed : Layout (Indexed m)
  pub trees : layout ≡ layout_as (tree_in m) indexed
  pub blocks : kept ≡ layout_as (block_in m) indexed

-- without a mapping there are no trees
abbrev pub StandsUnder : Option Mapping → Layout BlockState → Layout Tree → Type 0
StandsUnder None kept layout = layout ≡ empty_layout
StandsUnder (Some m) kept layout = StandsFor m kept layout

-- A mapping and an index are faithful to a state that has the mapping, the next number and the trees of the blocks, and which
-- lays out its live trees.
pub record AreFaithful (mapping : Option Mapping) (index : IndexState) (state : State) : Type 0 where
  pub mapped : state.content.mapping ≡ mapping
  pub next : state.content.next ≡ index.next
  pub stands : StandsUnder mapping (layout_kept index) state.layout
  pub laid : IsLaid state
  pub numbered : IsNumbered state.content

-- ---- points in time

-- The blocks of entries are those of trees, dead ones among them, of which the live ones stand in this order.
pub record EntriesStandFor (m : Mapping) (entries : List EntryState) (live : List Tree) : Type 0 where
  pub indexed : List (SegmentOf (Indexed m))
  pub blocks : segments_kept entries ≡ map (segment_as (block_in m)) indexed
  pub live_are : live ≡ map (tree_in m) (flat_map live_in indexed)
  pub numbered : IsLiveList live

-- the entries of a point in time stand for its trees, under the same id
pub record PointStandsFor (m : Mapping) (kept : KeptPoint) (point : PointInTime) : Type 0 where
  pub id : point.id ≡ kept.id
  pub entries : EntriesStandFor m kept.entries point.live

-- one point in time for another, and as many were opened
pub record PointsStand (m : Mapping) (kept : KeptPoints) (points : PointsInTime) : Type 0 where
  pub opened : points.opened ≡ kept.opened
  pub each : AllZip (PointStandsFor m) kept.points points.points

-- without a mapping none was opened
abbrev pub PointsStandFor : Option Mapping → KeptPoints → PointsInTime → Type 0
PointsStandFor None kept points = (kept ≡ no_points) × (points ≡ state.no_points)
PointsStandFor (Some m) kept points = PointsStand m kept points
