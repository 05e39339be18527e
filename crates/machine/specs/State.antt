-- The states of the machine, in four parts: what searches and writes see, the points in time, how the trees are laid out
-- in segments, and what a store keeps.
use Rattle.std.specs.Prelude.{◌≡◌, ℕ, ◌<◌, List, [], Option, None}
use Rattle.std.specs.List.{AllByRecursion}
use Rattle.extent_pool.specs.Placing.{NamedExtent}
use Rattle.extent_pool.specs.declared.extent.Extent.{Extent}
use Rattle.layout.specs.Layout.{Layout, empty_layout, live_items, sealed}
use Rattle.mapping.specs.Mapping.{Mapping}
use Rattle.tree_objects.specs.Tree.{Tree, IsLiveList}

-- the mapping, where there is one, the live trees, and the next sequence number
pub record Content : Type 0 where
  pub mapping : Option Mapping
  pub live : List Tree
  pub next : ℕ

-- a point in time: its id, and the trees that were live when it was opened
pub record PointInTime : Type 0 where
  pub id : ℕ
  pub live : List Tree

-- the points in time that are open, and how many were opened
pub record PointsInTime : Type 0 where
  pub points : List PointInTime
  pub opened : ℕ

-- what the last commit names that was acknowledged, or found at opening: its segments, in order, each with the extent of the
-- store file that has its bytes, and all extents that are taken so, that of its record first; and the greatest commit
-- generation that was tried or found. What was found in the first format names extents, and no segments.
pub record Kept : Type 0 where
  pub segments : List NamedExtent
  pub taken : List Extent
  pub generation : ℕ

pub record State : Type 0 where
  pub content : Content
  pub points : PointsInTime
  pub layout : Layout Tree
  pub kept : Kept

abbrev pub no_points : PointsInTime
no_points = record { points = []; opened = 0 }

abbrev pub nothing_stored : Kept
nothing_stored = record { segments = []; taken = []; generation = 0 }

abbrev pub empty_state : State
empty_state = record {
  content = record { mapping = None; live = []; next = 0 };
  points = no_points;
  layout = empty_layout;
  kept = nothing_stored;
}

-- the state with its buffer sealed
abbrev pub sealed_state : State → State
sealed_state state = record state { layout = sealed state.layout }

-- the trees that the layout has live are the live trees
abbrev pub IsLaid : State → Type 0
IsLaid state = live_items state.layout ≡ state.content.live

-- each tree is older than the number
abbrev pub AreBelow : ℕ → List Tree → Type 0
AreBelow number trees = AllByRecursion (λ (tree : Tree). tree.number < number) trees

-- the numbers of the live trees ascend and are below the next one, and no two live trees have the same id
pub record IsNumbered (content : Content) : Type 0 where
  pub live : IsLiveList content.live
  pub below : AreBelow content.next content.live
