-- These serve proofs alone: what is looked up by number and by id.
use Rattle.std.specs.Prelude.{◌≡◌, ℕ, ◌+◌, ◌<◌, ◌≤◌, nat_le, Bool, true, false, List, [], ◌∷◌, ◌++◌, length, map, filter, count_by, get_or, slice_get, find, take, drop, Option, Some}
use Rattle.std.specs.BTreeMap.{get_by}
use Rattle.std.specs.Cmp.Lexicographic.{slice_cmp}
use Rattle.std.specs.List.{All, AllByRecursion, flat_map}
use Rattle.std.specs.Option.{option_map}
use Rattle.std.specs.Ordering.{nat_cmp}
use Rattle.block_bits.specs.Flags.{is_marked}
use Rattle.flattener.specs.Block.{BlockState}
use Rattle.flattener.specs.Fits.{SegmentFits}
use Rattle.layout.specs.Ascending.{Ascend}
use Rattle.layout.proofs.Merging.{HaveIds}
use Rattle.layout.specs.Layout.{Layout, buffer_size, is_live, item_in, live_in, live_items}
use Rattle.layout.specs.Merges.{AreOpen, factor_of}
use Rattle.mapping.specs.Mapping.{Mapping}
use Rattle.merge_jobs.specs.Job.{AreLater, IsLater}
use Rattle.merge_jobs.specs.Open.{OpenState, is_named, merges_in, merges_shown}
use Rattle.segment.specs.Live.{EntryState, LiveState, IsLiveOver}
use Rattle.segment_parts.specs.declared.columns.Columns.{Columns}
use Rattle.segment_builder.specs.Blocks.{blocks_in, blocks_of, marked_by, objects_of}
use Rattle.stored_sources.specs.declared.root.Root.{Root}
use Rattle.index_core.specs.Kept.{AreBlocks, HaveOwnIds, most_factor, has_block_id, block_number, numbers_in, segment_kept, segments_kept, laid}
use Rattle.index_core.specs.declared.live_numbers.LiveNumbers.{LiveNumbers}
use Rattle.index_core.specs.declared.ready.Ready.{Ready}
use Rattle.index_core.specs.declared.place.Place.{Place}
use Rattle.index_core.specs.declared.place.Place.TheVariants.{Root as AtRoot, Buffer as AtBuffer}

-- the number that stands under an id
abbrev pub number_under : LiveNumbers → List ℕ → Option ℕ
number_under live id = get_by (λ key. slice_cmp nat_cmp id key.items) live.numbers

-- the number of the block with an id
abbrev pub number_of : List ℕ → List BlockState → Option ℕ
number_of id blocks = option_map block_number (find (has_block_id id) blocks)

-- ---- numbers that are read by index

-- each number is less than those behind it
abbrev pub Rise : List ℕ → Type 0
Rise numbers = (one two : ℕ) → one < two → two < length numbers → get_or numbers one 0 < get_or numbers two 0

-- a number stands at an index
pub record StandsAt (numbers : List ℕ) (index number : ℕ) : Type 0 where
  pub within : index < length numbers
  pub at : get_or numbers index 0 ≡ number

-- a number stands somewhere
abbrev pub Stands : List ℕ → ℕ → Type 0
Stands numbers number = (index : ℕ) × StandsAt numbers index number

-- so far all numbers below `low` are at most the number, and all from `high` on are greater
pub record IsHalving (numbers : List ℕ) (number low high : ℕ) : Type 0 where
  pub ordered : low ≤ high
  pub within : high ≤ length numbers
  pub before : (index : ℕ) → index < low → get_or numbers index 0 ≤ number
  pub behind : (index : ℕ) → high ≤ index → index < length numbers → number < get_or numbers index 0

-- the numbers of the roots of a segment
abbrev pub root_numbers : Columns → List ℕ
root_numbers columns = map (λ (root : Root). root.number) columns.roots

abbrev pub first_number : EntryState → ℕ
first_number entry = get_or (root_numbers entry.columns) 0 0

abbrev pub first_numbers : List EntryState → List ℕ
first_numbers entries = map first_number entries

abbrev pub block_numbers : List BlockState → List ℕ
block_numbers blocks = map block_number blocks

-- the first of these blocks has at most the number
abbrev pub begins_by : ℕ → List BlockState → Bool
begins_by number [] = false
begins_by number (block ∷ blocks) = nat_le block.root.number number

-- ---- an entry

-- whatever is live, as many documents are live as the live blocks have objects
abbrev pub AreCounted : Columns → Type 0
AreCounted columns = (live : LiveState) → IsLiveOver columns live → count_by is_marked live.docs ≡ objects_of (map item_in (filter is_live (marked_by (blocks_of columns) live.roots)))

-- an entry has some root, its blocks have the numbers of its roots, and its live documents are those of its live blocks
pub record IsWhole (entry : EntryState) : Type 0 where
  pub some : 0 < length entry.columns.roots
  pub numbers : numbers_in (segment_kept entry) ≡ root_numbers entry.columns
  pub counted : AreCounted entry.columns

abbrev pub AreWhole : List EntryState → Type 0
AreWhole entries = All IsWhole entries

-- ---- blocks in entries and in the buffer

abbrev pub live_blocks : List EntryState → List BlockState → List BlockState
live_blocks entries buffer = flat_map live_in (segments_kept entries) ++ buffer

abbrev pub all_numbers : List EntryState → List BlockState → List ℕ
all_numbers entries buffer = flat_map numbers_in (segments_kept entries) ++ block_numbers buffer

-- the live block with an id has this number
pub record IsLive (entries : List EntryState) (buffer : List BlockState) (id : List ℕ) (block : BlockState) (number : ℕ) : Type 0 where
  pub found : find (has_block_id id) (live_blocks entries buffer) ≡ Some block
  pub same : block_number block ≡ number

-- numbers ascend, and this one is a live block's
pub record IsLiveNumber (entries : List EntryState) (buffer : List BlockState) (number : ℕ) : Type 0 where
  pub end : ℕ
  pub ascending : Ascend 0 (all_numbers entries buffer) end
  pub id : List ℕ
  pub block : BlockState
  pub live : IsLive entries buffer id block number

-- the live block with this id has this number, and no other live block has the id
pub record HasLive (entries : List EntryState) (buffer : List BlockState) (id : List ℕ) (number : ℕ) : Type 0 where
  pub end : ℕ
  pub ascending : Ascend 0 (all_numbers entries buffer) end
  pub ids : HaveOwnIds (live_blocks entries buffer)
  pub block : BlockState
  pub live : IsLive entries buffer id block number

-- the number of the live block with this id, if there is one; no two live blocks have the same id
pub record HasOld (entries : List EntryState) (buffer : List BlockState) (id : List ℕ) (number : Option ℕ) : Type 0 where
  pub end : ℕ
  pub ascending : Ascend 0 (all_numbers entries buffer) end
  pub ids : HaveOwnIds (live_blocks entries buffer)
  pub live : option_map block_number (find (has_block_id id) (live_blocks entries buffer)) ≡ number

-- a block stands, live, at a root of an entry
pub record IsRootAt (entries : List EntryState) (index root : ℕ) (block : BlockState) : Type 0 where
  pub entry : EntryState
  pub here : slice_get entries index ≡ Some entry
  pub item : slice_get (blocks_in entry) root ≡ Some (record { item = block; live = true })
  pub within : root < length entry.columns.roots

abbrev pub IsAt : Place → List EntryState → List BlockState → BlockState → Type 0
IsAt (AtRoot index root) entries buffer block = IsRootAt entries index root block
IsAt (AtBuffer index) entries buffer block = slice_get buffer index ≡ Some block

-- ---- what keeps blocks, without a mapping

-- entries, the blocks behind them, segments made, for how many blocks more there is room, the merges that are open with their
-- jobs, how many were started, and the factor, where 0 is none
pub record BlocksState : Type 0 where
  pub entries : List EntryState
  pub buffer : List BlockState
  pub made : ℕ
  pub spare : ℕ
  pub jobs : List OpenState
  pub started : ℕ
  pub factor : ℕ

abbrev pub layout_of : BlocksState → Layout BlockState
layout_of it = record (laid it.entries it.buffer it.made) { merges = merges_in it.jobs; started = it.started; factor = factor_of it.factor }

-- entries have ids of segments that were made, and are whole
pub record AreBelow (made : ℕ) (entries : List EntryState) : Type 0 where
  pub ids : All (λ (entry : EntryState). entry.id < made) entries
  pub whole : AreWhole entries

-- segments are ones that the mapping can have made
abbrev pub AreFit : Mapping → List EntryState → Type 0
AreFit m entries = All (λ (entry : EntryState). SegmentFits m entry.columns) entries

abbrev pub columns_of : List EntryState → List Columns
columns_of entries = map (λ (entry : EntryState). entry.columns) entries

-- ---- open merges beside entries

abbrev pub entry_id : EntryState → ℕ
entry_id entry = entry.id

-- an entry with the id of a part is that part later on
abbrev pub IsLaterOf : EntryState → EntryState → Type 0
IsLaterOf part entry = entry.id ≡ part.id → IsLater part entry

abbrev pub ComesLater : List EntryState → EntryState → Type 0
ComesLater entries part = AllByRecursion (IsLaterOf part) entries

-- a merge has the entries in its range that it was started on, as they are now
pub record IsJobOver (entries : List EntryState) (job : OpenState) : Type 0 where
  pub ids : map entry_id job.parts ≡ map entry_id (take job.merge.count (drop job.merge.from entries))
  pub later : AllByRecursion (ComesLater entries) job.parts

-- what is so of entries and open merges at all times
pub record AreKept (made started factor : ℕ) (entries : List EntryState) (jobs : List OpenState) : Type 0 where
  pub below : AreBelow made entries
  pub open_are : AreOpen (length entries) started (merges_in jobs)
  pub over : AllByRecursion (IsJobOver entries) jobs
  pub factor_is : factor ≤ most_factor

-- an open merge has an id, and its neighbours stand as it has them
pub record HasJob (entries : List EntryState) (jobs : List OpenState) (id : ℕ) (job : OpenState) : Type 0 where
  pub named : find (is_named id) jobs ≡ Some job
  pub within : job.merge.from + job.merge.count ≤ length entries
  pub same : AreLater job.parts (take job.merge.count (drop job.merge.from entries))

-- ---- what sealing makes, before anything is replaced

abbrev pub layout_ready : Ready → ℕ → ℕ → Layout BlockState
layout_ready ready started factor = record {
  segments = segments_kept ready.view;
  buffer = [];
  merges = merges_shown ready.merges.items;
  started = started;
  made = ready.made;
  factor = factor_of factor;
}

-- ---- other segments with the same live blocks

-- merges are open and segments have ids of their own
pub record AreOpenOf (layout : Layout BlockState) : Type 0 where
  pub open_are : AreOpen (length layout.segments) layout.started layout.merges
  pub ids : HaveIds layout.segments layout.made

-- what is so of the blocks of an index stays so, and the same are live
pub record IsRelaid (old now : BlocksState) : Type 0 where
  pub blocks : (next : ℕ) → AreBlocks (layout_of old) next → AreBlocks (layout_of now) next
  pub live : live_items (layout_of now) ≡ live_items (layout_of old)

-- there is room for one block more
pub record HasRoom (layout : Layout BlockState) (next : ℕ) : Type 0 where
  pub blocks : AreBlocks layout next
  pub less : length layout.buffer < buffer_size
