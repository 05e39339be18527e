-- What a store knows of an index, and how commits, compactions and trims end.
use Rattle.std.specs.Prelude.{◌≡◌, ◌≢◌, ◌⊎◌, ℕ, ◌<◌, List, [], map, Option, None, Some, Result, Ok, Err}
use Rattle.std.specs.List.{All}
use Rattle.commit_store.specs.declared.known.KnownSegment.{KnownSegment}
use Rattle.commit_store.specs.declared.refusal.CommitRefusal.{CommitRefusal}
use Rattle.commit_store.specs.declared.refusal.CommitRefusal.TheVariants as commits
use Rattle.commit_store.specs.Known.{StoreState, KeepsStore}
use Rattle.commit_store.specs.Preparing.{IsLeft, end_named, room_of}
use Rattle.commit_store.specs.Saying.{StoreCommit, FoundAs, last_generation}
use Rattle.commit_store.specs.Stepping.{HoldsView}
use Rattle.disk.specs.Stops.{Passes}
use Rattle.extent_pool.specs.Placing.{Room}
use Rattle.flattener.specs.Block.{BlockState}
use Rattle.index_core.specs.Kept.{IndexState, layout_kept}
use Rattle.layout.specs.Layout.{Layout, SegmentOf, item_in, sealed}
use Rattle.layout_ids.specs.Ids.{HaveGivenIds}
use Rattle.mapping.specs.Mapping.{Mapping}
use Rattle.reply_text.specs.declared.refusal.Refusal.TheVariants.{StoreFull, DiskFailure}
use Rattle.reply_text.specs.declared.reply.Reply.{Reply}
use Rattle.reply_text.specs.declared.reply.Reply.TheVariants.{Committed, Compacted, Trimmed}
use Rattle.segment.specs.Live.{EntryState}
use Rattle.segment_builder.specs.Blocks.{blocks_of}
use Rattle.segment_parts.specs.Agree.{AreColumns}
use Rattle.store_compact.specs.Compacting.{IsCompacted, IsUntried}
use Rattle.store_commands.specs.declared.not_done.NotDone.{NotDone}
use Rattle.store_commands.specs.declared.not_done.NotDone.TheVariants.{Refused, NoMemory}

-- ---- what a store knows of an index

-- the segment, where it has the id of the known one, has the blocks of that
abbrev pub HasBlocksOf : KnownSegment → SegmentOf BlockState → Type 0
HasBlocksOf known segment = segment.id ≡ known.entry.id → map item_in segment.items ≡ blocks_of known.entry.columns

-- The ids of segments and those of known ones were given, and what the store knows under the id of a segment has its blocks.
pub record AreKnown (layout : Layout BlockState) (known : List KnownSegment) : Type 0 where
  pub given : HaveGivenIds layout
  pub below : All (λ (it : KnownSegment). it.entry.id < layout.made) known
  pub blocks : All (λ (it : KnownSegment). All (HasBlocksOf it) layout.segments) known

-- ---- how commits and compactions end: the index is sealed first

-- the layout is as it was, or its buffer is sealed
abbrev pub StaysOrSeals : IndexState → IndexState → Type 0
StaysOrSeals index index' = (layout_kept index' ≡ layout_kept index) ⊎ (layout_kept index' ≡ sealed (layout_kept index))

-- the columns of each segment agree
abbrev pub HaveColumns : IndexState → Type 0
HaveColumns index = All (λ (entry : EntryState). AreColumns entry.columns) index.entries

-- The view was committed, and so many segments were moved, of at most `most` gone through.
pub record IsWritten (m : Mapping) (most count : ℕ) (index index' : IndexState) (store store' : StoreState) : Type 0 where
  pub below : store.tried ≢ last_generation
  pub layout : layout_kept index' ≡ sealed (layout_kept index)
  pub agree : HaveColumns index'
  pub compacted : IsCompacted store m index'.entries most count store'

-- no generation is left, or there is no room
pub record IsFull (m : Mapping) (index index' : IndexState) (store store' : StoreState) : Type 0 where
  pub layout : layout_kept index' ≡ sealed (layout_kept index)
  pub agree : HaveColumns index'
  pub untried : IsUntried store store'
  pub full : (store.tried ≡ last_generation) ⊎ ((store.tried ≢ last_generation) × (room_of store m index'.entries ≡ None))

-- a call of the disk failed: before a generation was tried, or behind it, and then there was room
pub record HasFailed (m : Mapping) (index index' : IndexState) (store store' : StoreState) : Type 0 where
  pub below : store.tried ≢ last_generation
  pub layout : layout_kept index' ≡ sealed (layout_kept index)
  pub agree : HaveColumns index'
  pub left : IsLeft store store'
  pub tried : IsUntried store store' ⊎ ((room : Room) × (room_of store m index'.entries ≡ Some room))

-- there was no memory, and no generation was tried
pub record IsLacking (index index' : IndexState) (store store' : StoreState) : Type 0 where
  pub layout : StaysOrSeals index index'
  pub untried : IsUntried store store'

-- nothing was committed
abbrev pub IsNotWritten : Mapping → NotDone → IndexState → IndexState → StoreState → StoreState → Type 0
IsNotWritten m (Refused why) index index' store store' =
    ((why ≡ StoreFull) × IsFull m index index' store store') ⊎ ((why ≡ DiskFailure) × HasFailed m index index' store store')
IsNotWritten m NoMemory index index' store store' = IsLacking index index' store store'

-- what a commit with moves leaves, by how many were moved
abbrev pub HasEnded : Mapping → ℕ → Result ℕ NotDone → IndexState → IndexState → StoreState → StoreState → Type 0
HasEnded m most (Ok count) index index' store store' = IsWritten m most count index index' store store'
HasEnded m most (Err why) index index' store store' = IsNotWritten m why index index' store store'

-- a commit alone, with its reply
pub record HasCommitted (m : Mapping) (reply : Reply) (index index' : IndexState) (store store' : StoreState) : Type 0 where
  pub count : ℕ
  pub written : IsWritten m 0 count index index' store store'
  pub reply_is : reply ≡ Committed index.next

abbrev pub IsCommitted : Mapping → Result Reply NotDone → IndexState → IndexState → StoreState → StoreState → Type 0
IsCommitted m (Ok reply) index index' store store' = HasCommitted m reply index index' store store'
IsCommitted m (Err why) index index' store store' = IsNotWritten m why index index' store store'

-- one that moves segments
pub record HasMoved (m : Mapping) (most : ℕ) (reply : Reply) (index index' : IndexState) (store store' : StoreState) : Type 0 where
  pub count : ℕ
  pub written : IsWritten m most count index index' store store'
  pub reply_is : reply ≡ Compacted count index.next

abbrev pub IsMoved : Mapping → ℕ → Result Reply NotDone → IndexState → IndexState → StoreState → StoreState → Type 0
IsMoved m most (Ok reply) index index' store store' = HasMoved m most reply index index' store store'
IsMoved m most (Err why) index index' store store' = IsNotWritten m why index index' store store'

-- ---- how trims end

-- the index is sealed, and no generation was tried
pub record IsClosed (index index' : IndexState) (store store' : StoreState) : Type 0 where
  pub layout : layout_kept index' ≡ sealed (layout_kept index)
  pub untried : IsUntried store store'

abbrev pub IsTrimmed : Result Reply NotDone → IndexState → IndexState → StoreState → StoreState → Type 0
IsTrimmed (Ok reply) index index' store store' = (reply ≡ Trimmed (end_named store.named)) × IsClosed index index' store store'
IsTrimmed (Err (Refused why)) index index' store store' = (why ≡ DiskFailure) × IsClosed index index' store store'
IsTrimmed (Err NoMemory) index index' store store' = IsLacking index index' store store'

-- ---- the disk

-- A command was done on a store on whose disk a stop could leave some images: behind it the store has a last commit, or none,
-- that all images keep, and an image that a stop may leave on the way shows what it may.
pub record KeepsOn (store' : StoreState) (Shows image' : List ℕ → Type 0) (from to : ℕ) (past since : ℕ → List ℕ → Type 0) : Type 0 where
  pub last : Option StoreCommit
  pub keeps : KeepsStore store' last image'
  pub passes : Passes from to past since Shows

-- an image that a stop may leave on the way: it opens as one of those before, or holds the view of a sealed index
abbrev pub FoundAsOrSealed : ℕ → (List ℕ → Type 0) → Mapping → IndexState → List ℕ → Type 0
FoundAsOrSealed limit images m index image = FoundAs limit images image ⊎ ((index.buffer ≡ []) × HoldsView limit m index.next index.entries image)

-- why a commit isn't done
abbrev pub not_done_by : CommitRefusal → NotDone
not_done_by commits.DiskFault = Refused DiskFailure
not_done_by commits.StoreFull = Refused StoreFull
not_done_by commits.NoMemory = NoMemory
