-- What an index keeps: the entries of its view, each a segment of blocks, and the blocks in its buffer.
use Rattle.std.specs.Prelude.{ℕ, ◌+◌, ◌<◌, ◌≤◌, ◌^◌, Bool, List, [], ◌∷◌, ◌++◌, length, map, max, count_by, find, Option, None}
use Rattle.std.specs.List.{All, flat_map}
use Rattle.std.specs.Str.{bytes_eq}
use Rattle.flattener.specs.Block.{BlockState}
use Rattle.flattener.specs.Fits.{BlockFits, SegmentFits, most_live}
use Rattle.layout.specs.Ascending.{Ascend}
use Rattle.layout.specs.Layout.{Marked, SegmentOf, Layout, OpenMerge, live_items, buffer_size}
use Rattle.mapping.specs.Mapping.{Mapping}
use Rattle.segment.specs.Live.{EntryState}
use Rattle.segment_builder.specs.Blocks.{objects_of}
pub use Rattle.merge_jobs.specs.Job.{segment_kept, segments_kept}

-- the entries of the view and the blocks in the buffer behind them; how many segments were made, which is the id of the next
-- one; the next sequence number; the most live objects; the merges that are open, and how many were started; and the factor by
-- which neighbours are merged by themselves
pub record IndexState : Type 0 where
  pub entries : List EntryState
  pub buffer : List BlockState
  pub made : ℕ
  pub next : ℕ
  pub objects : ℕ
  pub merges : List OpenMerge
  pub started : ℕ
  pub factor : Option ℕ

-- ---- the layout of its blocks

-- no merge is open, and there is no factor
abbrev pub laid : List EntryState → List BlockState → ℕ → Layout BlockState
laid entries buffer made = record { segments = segments_kept entries; buffer = buffer; merges = []; started = 0; made = made; factor = None }

abbrev pub layout_kept : IndexState → Layout BlockState
layout_kept kept = record (laid kept.entries kept.buffer kept.made) { merges = kept.merges; started = kept.started; factor = kept.factor }

-- the live blocks, in order
abbrev pub live_kept : IndexState → List BlockState
live_kept kept = live_items (layout_kept kept)

abbrev pub has_block_id : List ℕ → BlockState → Bool
has_block_id id block = bytes_eq block.root.id id

-- the live block with an id
abbrev pub live_block : List ℕ → IndexState → Option BlockState
live_block id kept = find (has_block_id id) (live_kept kept)

abbrev pub block_number : BlockState → ℕ
block_number block = block.root.number

-- ---- what is so at all times

-- no two blocks have the same id
abbrev pub HaveOwnIds : List BlockState → Type 0
HaveOwnIds blocks = (id : List ℕ) → count_by (has_block_id id) blocks ≤ 1

-- the numbers of all blocks in a segment, dead ones too
abbrev pub numbers_in : SegmentOf BlockState → List ℕ
numbers_in segment = map (λ (block : Marked BlockState). block.item.root.number) segment.items

-- the numbers of all blocks in the segments and in the buffer
abbrev pub numbers_of : Layout BlockState → List ℕ
numbers_of layout = flat_map numbers_in layout.segments ++ map block_number layout.buffer

-- the last sequence number that there is
abbrev pub last_number : ℕ
last_number = 2 ^ 62

-- the greatest factor
abbrev pub most_factor : ℕ
most_factor = 10

-- so many segments have an id
abbrev pub most_made : ℕ
most_made = 2 ^ 128

-- numbers ascend below the next one, no two live blocks have the same id, and there are not too many objects, blocks in the
-- buffer, and segments that were made
pub record AreBlocks (layout : Layout BlockState) (next : ℕ) : Type 0 where
  pub ascending : Ascend 0 (numbers_of layout) next
  pub ids : HaveOwnIds (live_items layout)
  pub few : objects_of (live_items layout) ≤ most_live
  pub buffer : length layout.buffer ≤ buffer_size
  pub made : layout.made < most_made

-- what an index keeps
pub record IsIndex (kept : IndexState) : Type 0 where
  pub blocks : AreBlocks (layout_kept kept) kept.next
  pub next : kept.next ≤ last_number
  pub objects : kept.objects ≤ most_live

-- more than the id of each of these entries
abbrev pub made_by : List EntryState → ℕ
made_by [] = 0
made_by (entry ∷ entries) = max (entry.id + 1) (made_by entries)

-- ---- beside a mapping

-- segments and blocks are ones that the mapping can have made
pub record IndexFits (m : Mapping) (kept : IndexState) : Type 0 where
  pub entries : All (λ (entry : EntryState). SegmentFits m entry.columns) kept.entries
  pub buffer : All (BlockFits m) kept.buffer
