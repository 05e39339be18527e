-- How room is found, segment by segment.
use Rattle.std.specs.Prelude.{◌≡◌, ℕ, Bool, true, false, List, [], ◌∷◌, ◌++◌, length, Option, None, Some, option_map}
use Rattle.std.specs.List.{AllByRecursion}
use Rattle.std.specs.List.Sorted.{IsPermutation}
use Rattle.extent_pool.specs.Extents.{AreDisjoint, AreInOrder, Pool}
use Rattle.extent_pool.specs.Placing.{better, fit, placed}
use Rattle.extent_pool.specs.declared.extent.Extent.{Extent}
use Rattle.segment.specs.Live.{EntryState}
use Rattle.segment_parts.specs.Agree.{AreColumns}
use Rattle.segment_parts.specs.Text.{segment_text}
use Rattle.commit_store.specs.declared.known.KnownSegment.{KnownSegment}
use Rattle.commit_store.specs.Moving.{moved_into, named_planned}
use Rattle.commit_store.specs.Preparing.{PlannedSegment, new_sizes, planned, planned_as}

-- the extents that new entries get in a pool
abbrev pub placed_in : List KnownSegment → List EntryState → Pool → Option (List Extent)
placed_in known entries pool = placed pool.limit pool.taken (new_sizes known entries)

-- the columns of a planned segment agree, and its extent is as long as their text
pub record IsSound (segment : PlannedSegment) : Type 0 where
  pub agree : AreColumns segment.entry.columns
  pub long : segment.extent.len ≡ length (segment_text segment.entry.columns)

-- entries are planned, and the pool has what they got
pub record ArePlanned (known : List KnownSegment) (entries : List EntryState) (old new : Pool) (segments : List PlannedSegment) : Type 0 where
  pub extents : List Extent
  pub placed_are : placed_in known entries old ≡ Some extents
  pub segments_are : segments ≡ planned known entries extents
  pub taken : IsPermutation (extents ++ old.taken) new.taken
  pub sound : AllByRecursion IsSound segments

-- a new entry gets the first fit
pub record IsPlannedIn (pool : Pool) (seen : EntryState) (it : PlannedSegment) : Type 0 where
  pub entry : it.entry ≡ seen
  pub live : it.live ≡ seen.live.roots
  pub before : it.before ≡ None
  pub fits : fit pool.limit pool.taken (length (segment_text seen.columns)) ≡ Some it.extent
  pub agree : AreColumns seen.columns

-- an entry that is known stays, and a new one is taken room for
abbrev pub IsNextBy : Option KnownSegment → EntryState → Pool → Pool → PlannedSegment → Type 0
IsNextBy None seen pool after it = IsPlannedIn pool seen it × IsPermutation (it.extent ∷ pool.taken) after.taken
IsNextBy (Some known) seen pool after it = (it ≡ planned_as seen (Some known) []) × (after ≡ pool)

-- an entry is new, and there is no room for it
abbrev pub IsFullBy : Option KnownSegment → EntryState → Pool → Type 0
IsFullBy None seen pool = fit pool.limit pool.taken (length (segment_text seen.columns)) ≡ None
IsFullBy (Some known) seen pool = ⊥

-- entries are being planned, those on the left are still to come
pub record IsPlanning (known : List KnownSegment) (left all : List EntryState) (old now : Pool) (segments : List PlannedSegment) : Type 0 where
  pub extents : List Extent
  pub placed_are : placed_in known all old ≡ option_map (λ (more : List Extent). extents ++ more) (placed_in known left now)
  pub segments_are : (more : List Extent) → planned known all (extents ++ more) ≡ segments ++ planned known left more
  pub taken : IsPermutation (extents ++ old.taken) now.taken
  pub limit : now.limit ≡ old.limit
  pub sound : AllByRecursion IsSound segments

-- ---- moves

-- a segment has the better extent that a pool has for it, which is taken then
pub record IsTakenFor (extent : Extent) (old new : PlannedSegment) (before after : Pool) : Type 0 where
  pub better_is : better before.limit before.taken (named_planned old) ≡ Some extent
  pub segment : new ≡ moved_into extent old
  pub taken : IsPermutation (extent ∷ before.taken) after.taken
  pub limit : after.limit ≡ before.limit
  pub in_order : AreInOrder after.limit after.taken
  pub disjoint : AreDisjoint after.taken

-- a segment was moved, or the pool has no better extent for it
abbrev pub IsMoved : Bool → PlannedSegment → PlannedSegment → Pool → Pool → Type 0
IsMoved true old new before after = (extent : Extent) × IsTakenFor extent old new before after
IsMoved false old new before after = (better before.limit before.taken (named_planned old) ≡ None) × (new ≡ old) × (after ≡ before)
