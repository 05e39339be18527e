-- What a commit is made of: what may be committed, where it will stand, and the commit that it is.
use Rattle.std.specs.Prelude.{◌≡◌, ℕ, ◌+◌, ◌*◌, ◌==◌, ◌≤◌, ◌<◌, ◌⊎◌, Bool, true, false, not, max, List, [], ◌∷◌, ◌++◌, length, map, count_by, sum_by, filter, find, slice_get, Option, None, Some, option_map}
use Rattle.std.specs.List.{All, AllByRecursion, filter_map}
use Rattle.std.specs.List.Sorted.{IsPermutation}
use Rattle.std.specs.Option.{is_none}
use Rattle.extent_pool.specs.Extents.{end_of, AreDisjoint}
use Rattle.extent_pool.specs.Placing.{Room, room_for}
use Rattle.extent_pool.specs.declared.extent.Extent.{Extent}
use Rattle.flattener.specs.Fits.{ViewFits}
use Rattle.index_core.specs.Kept.{AreBlocks, laid, made_by, last_number}
use Rattle.mapping.specs.Mapping.{Mapping}
use Rattle.segment.specs.Live.{EntryState}
use Rattle.segment_builder.specs.Blocks.{blocks_of, blocks_in}
use Rattle.segment_parts.specs.Text.{segment_text}
use Rattle.segment_parts.specs.declared.columns.Columns.{Columns}
use Rattle.segment_view.specs.Views.{HaveOwnIds}
use Rattle.store_text.specs.Header.{header_size, other}
use Rattle.store_text.specs.Pieces.{Piece}
use Rattle.store_text.specs.declared.header.Side.{Side}
use Rattle.store_text.specs.declared.header.Side.TheVariants.{A, B}
use Rattle.tree_json.specs.Text.{compact}
use Rattle.commit_store.specs.Saying.{StoredSegment, Saying, StoreCommit, HaveSources, IsReadBack, IsGood, entries_of, extent_of, extents_of, dead_of, last_generation}
use Rattle.commit_store.specs.declared.known.KnownSegment.{KnownSegment}
use Rattle.commit_store.specs.Known.{StoreState}

-- ---- what may be committed

-- an entry with the id of a known segment has the blocks of that segment
abbrev pub HasBlocksOf : EntryState → KnownSegment → Type 0
HasBlocksOf entry known = entry.id ≡ known.entry.id → blocks_of entry.columns ≡ blocks_of known.entry.columns

-- The bodies of the mapping are read back from their texts, the view is one that it can have made, and what the store knows of
-- the view is so.
pub record IsCommittable (store : StoreState) (m : Mapping) (next : ℕ) (view : List EntryState) : Type 0 where
  pub read : All IsReadBack m.bodies
  pub fits : ViewFits m view
  pub sources : All (λ (entry : EntryState). HaveSources entry.columns) view
  pub blocks : AreBlocks (laid view [] (made_by view)) next
  pub few : next ≤ last_number
  pub known : All (λ (entry : EntryState). All (HasBlocksOf entry) store.known) view

-- ---- where it will stand

-- A segment of a commit that is prepared.
pub record PlannedSegment : Type 0 where
  -- the entry whose segment is written, or stands written: that of the view, or the one that the store knows under its id
  pub entry : EntryState
  -- for each root whether it is live in the view
  pub live : List Bool
  -- the extent that it has in the last commit, if it has one
  pub before : Option Extent
  -- the extent that it will have
  pub extent : Extent

-- A commit that is prepared.
pub record PreparedState : Type 0 where
  -- the greatest length of the store's file, in bytes
  pub limit : ℕ
  -- the texts of the mapping's bodies, and whether sources add to it
  pub bodies : List (List ℕ)
  pub dynamic : Bool
  -- the next sequence number
  pub next : ℕ
  -- the segments in the order of the view
  pub segments : List PlannedSegment
  -- the extent that the record will have
  pub record_extent : Extent
  -- all extents that are taken, the header's and those of the last commit among them, in ascending order of place
  pub taken : List Extent

-- the header as an extent, which nothing else may take
abbrev pub header_extent : Extent
header_extent = record { at = 0; len = header_size }

-- what is taken before a commit: the header, and what the last commit names
abbrev pub taken_by : StoreState → List Extent
taken_by store = header_extent ∷ store.named

-- the segment that a store knows under an id
abbrev pub has_id : ℕ → KnownSegment → Bool
has_id id known = known.entry.id == id

abbrev pub known_as : List KnownSegment → ℕ → Option KnownSegment
known_as known id = find (has_id id) known

-- the entry whose segment a commit writes or leaves written: the one that the store knows under the id, else its own
abbrev pub entry_or : EntryState → Option KnownSegment → EntryState
entry_or own None = own
entry_or own (Some known) = known.entry

-- how many bytes a new entry takes, and none for one that has an extent
abbrev pub size_unless : EntryState → Option KnownSegment → Option ℕ
size_unless entry None = Some (length (segment_text entry.columns))
size_unless entry (Some known) = None

abbrev pub new_sizes : List KnownSegment → List EntryState → List ℕ
new_sizes known view = filter_map (λ (entry : EntryState). size_unless entry (known_as known entry.id)) view

-- how many bytes the record takes
abbrev pub row_size : EntryState → ℕ
row_size entry = 20 + 4 * count_by not entry.live.roots

abbrev pub size_of_record : Mapping → List EntryState → ℕ
size_of_record m view = 21 + (sum_by (λ body. 4 + length (compact body)) m.bodies + sum_by row_size view)

-- room for a commit of the view, by first fit beside what is taken before it
abbrev pub room_of : StoreState → Mapping → List EntryState → Option Room
room_of store m view = room_for store.limit (taken_by store) (new_sizes store.known view) (size_of_record m view)

abbrev pub no_extent : Extent
no_extent = record { at = 0; len = 0 }

-- the extent that an entry has, or else the first of the new ones, and the new ones that are left then
abbrev pub extent_or : Option KnownSegment → List Extent → Extent
extent_or (Some known) extents = known.extent
extent_or None [] = no_extent
extent_or None (extent ∷ extents) = extent

abbrev pub extents_left : Option KnownSegment → List Extent → List Extent
extents_left (Some known) extents = extents
extents_left None [] = []
extents_left None (extent ∷ extents) = extents

abbrev pub planned_as : EntryState → Option KnownSegment → List Extent → PlannedSegment
planned_as entry known extents = record {
  entry = entry_or entry known;
  live = entry.live.roots;
  before = option_map (λ (it : KnownSegment). it.extent) known;
  extent = extent_or known extents;
}

-- the segments of a commit of these entries: each stays where it stands, or gets the next of the new extents
abbrev pub planned : List KnownSegment → List EntryState → List Extent → List PlannedSegment
planned known [] extents = []
planned known (entry ∷ entries) extents =
    planned_as entry (known_as known entry.id) extents ∷ planned known entries (extents_left (known_as known entry.id) extents)

-- what is taken once a room is, and the extents of the room with it
abbrev pub taken_with : Room → StoreState → List Extent
taken_with room store = room.record_extent ∷ (room.segments ++ taken_by store)

-- A commit of a view is prepared in a room.
pub record IsPlan (store : StoreState) (m : Mapping) (next : ℕ) (view : List EntryState) (room : Room) (prepared : PreparedState) : Type 0 where
  pub limit : prepared.limit ≡ store.limit
  pub bodies : prepared.bodies ≡ map compact m.bodies
  pub dynamic : prepared.dynamic ≡ m.dynamic
  pub next_is : prepared.next ≡ next
  pub segments : prepared.segments ≡ planned store.known view room.segments
  pub record_extent : prepared.record_extent ≡ room.record_extent
  pub taken : IsPermutation (taken_with room store) prepared.taken

-- it is prepared in the room that first fit gives
pub record IsPreparedFor (store : StoreState) (m : Mapping) (next : ℕ) (view : List EntryState) (prepared : PreparedState) : Type 0 where
  pub room : Room
  pub first_fit : room_of store m view ≡ Some room
  pub plan : IsPlan store m next view room prepared

-- ---- the commit that it is

-- the slot that the next commit takes
abbrev pub idle_side : Option Side → Side
idle_side None = A
idle_side (Some side) = other side

abbrev pub piece_of : PlannedSegment → Piece
piece_of segment = record { at = segment.extent.at; bytes = segment_text segment.entry.columns }

abbrev pub stored_of : PlannedSegment → StoredSegment
stored_of segment = record { piece = piece_of segment; columns = segment.entry.columns; live = segment.live }

-- the commit that is prepared, of bodies with these texts
pub record IsCommitOf (store : StoreState) (prepared : PreparedState) (c : StoreCommit) : Type 0 where
  pub side : c.side ≡ idle_side store.side
  pub generation : c.generation ≡ store.tried + 1
  pub old : c.says.old ≡ false
  pub bodies : map compact c.says.bodies ≡ prepared.bodies
  pub dynamic : c.says.dynamic ≡ prepared.dynamic
  pub next : c.says.next ≡ prepared.next
  pub segments : c.says.segments ≡ map stored_of prepared.segments
  pub record_extent : extent_of c.body ≡ prepared.record_extent
  pub good : IsGood store.limit c

-- the commit says this mapping, this next number and the blocks of this view, each live where it is live there
pub record SaysView (m : Mapping) (next : ℕ) (view : List EntryState) (c : StoreCommit) : Type 0 where
  pub bodies : c.says.bodies ≡ m.bodies
  pub dynamic : c.says.dynamic ≡ m.dynamic
  pub next_is : c.says.next ≡ next
  pub blocks : map blocks_in (entries_of c) ≡ map blocks_in view

-- ---- what a store and a commit that it prepared have in common

-- the segment stays where it stands
abbrev pub is_at : ℕ → Option Extent → Bool
is_at place None = false
is_at place (Some extent) = extent.at == place

abbrev pub stays : PlannedSegment → Bool
stays segment = is_at segment.extent.at segment.before

abbrev pub moves : PlannedSegment → Bool
moves segment = not (stays segment)

-- the extent that the segment at a place has in the last commit
abbrev pub before_in : Option PlannedSegment → Option Extent
before_in None = None
before_in (Some segment) = segment.before

abbrev pub before_at : PreparedState → ℕ → Option Extent
before_at prepared place = before_in (slice_get prepared.segments place)

-- the extents that the commit writes: those of segments that don't stay, in order, and that of the record
abbrev pub new_extents : PreparedState → List Extent
new_extents prepared = map (λ (segment : PlannedSegment). segment.extent) (filter moves prepared.segments) ++ prepared.record_extent ∷ []

-- a segment has the extent, and is written from the bytes, that the store knows under its id; under an id that it doesn't know
-- a segment is new
abbrev pub IsAsKnown : PlannedSegment → Option KnownSegment → Type 0
IsAsKnown segment None = segment.before ≡ None
IsAsKnown segment (Some known) = (segment.entry ≡ known.entry) × (segment.before ≡ Some known.extent)

-- This store prepared the commit, and but for moves nothing changed since. (The condition of what goes on with it.)
pub record IsPreparedBy (store : StoreState) (prepared : PreparedState) : Type 0 where
  -- the idle gate is closed on the disk, and there is a generation left
  pub closed : store.closed ≡ true
  pub below : store.tried < last_generation
  -- the segments have different ids, and stand where the store knows them or where nothing was taken
  pub ids : HaveOwnIds (map (λ (segment : PlannedSegment). segment.entry) prepared.segments)
  pub known : AllByRecursion (λ (segment : PlannedSegment). IsAsKnown segment (known_as store.known segment.entry.id)) prepared.segments
  pub long : AllByRecursion (λ (segment : PlannedSegment). segment.extent.len ≡ length (segment_text segment.entry.columns)) prepared.segments
  pub limit : prepared.limit ≡ store.limit
  pub taken : IsPermutation (new_extents prepared ++ taken_by store) prepared.taken
  pub disjoint : AreDisjoint prepared.taken
  -- it is a commit
  pub commit : (c : StoreCommit) × IsCommitOf store prepared c

-- ---- the store behind it

abbrev pub known_of : PlannedSegment → KnownSegment
known_of segment = record { entry = segment.entry; extent = segment.extent }

-- what the store knows once the commit is acknowledged: it is the last one; the gate of the other slot is known to be closed
-- where there was no commit before
abbrev pub committed : StoreState → PreparedState → StoreState
committed store prepared = record {
  limit = store.limit;
  side = Some (idle_side store.side);
  known = map known_of prepared.segments;
  named = prepared.record_extent ∷ map (λ (segment : PlannedSegment). segment.extent) prepared.segments;
  tried = store.tried + 1;
  closed = is_none store.side;
}

-- the idle gate is known to be closed
abbrev pub with_closed : StoreState → StoreState
with_closed store = record { limit = store.limit; side = store.side; known = store.known; named = store.named; tried = store.tried; closed = true }

-- What a commit that failed leaves of the store: its last commit is what it was, and it may have tried one more generation.
pub record IsLeft (old new : StoreState) : Type 0 where
  pub limit : new.limit ≡ old.limit
  pub side : new.side ≡ old.side
  pub known : new.known ≡ old.known
  pub named : new.named ≡ old.named
  pub tried : (new.tried ≡ old.tried) ⊎ (new.tried ≡ old.tried + 1)

-- the greatest end of an extent that the last commit names, in bytes, and that of the header where there is none
abbrev pub end_named : List Extent → ℕ
end_named [] = header_size
end_named (extent ∷ extents) = max (extent.at + extent.len) (end_named extents)
