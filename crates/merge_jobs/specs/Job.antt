-- A merge in pieces: the entries that it was started on, and how many roots it has left.
use Rattle.std.specs.Prelude.{◌≡◌, ℕ, true, List, map}
use Rattle.std.specs.List.{AllZip, flat_map}
use Rattle.flattener.specs.Block.{BlockState}
use Rattle.layout.specs.Layout.{SegmentOf}
use Rattle.segment.specs.Live.{EntryState}
use Rattle.segment_builder.specs.Blocks.{blocks_in, live_blocks}
use Rattle.segment_view.specs.Views.{is_live_root}

-- an entry as a segment of blocks
abbrev pub segment_kept : EntryState → SegmentOf BlockState
segment_kept entry = record { id = entry.id; items = blocks_in entry }

abbrev pub segments_kept : List EntryState → List (SegmentOf BlockState)
segments_kept entries = map segment_kept entries

-- the live blocks of entries, in order
abbrev pub live_in_all : List EntryState → List BlockState
live_in_all entries = flat_map live_blocks entries

-- the entries as they were at the start, and the live roots that are left to walk
pub record JobState : Type 0 where
  pub parts : List EntryState
  pub left : ℕ

-- an entry later on: the same segment under the same id, and each root that is live was live before
pub record IsLater (before now : EntryState) : Type 0 where
  pub id : now.id ≡ before.id
  pub columns : now.columns ≡ before.columns
  pub live : (root : ℕ) → is_live_root root now ≡ true → is_live_root root before ≡ true

abbrev pub AreLater : List EntryState → List EntryState → Type 0
AreLater before now = AllZip IsLater before now
