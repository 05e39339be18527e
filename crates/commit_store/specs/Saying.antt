-- What a commit says, and when it is good: what a file has to hold besides the pieces that stand where a slot leads.
use Rattle.std.specs.Prelude.{◌≡◌, ℕ, ◌+◌, ◌%◌, ◌≤◌, ◌^◌, Bool, true, false, if◌then◌else◌, List, [], ◌∷◌, length, map, Option}
use Rattle.std.specs.List.{All, AllByRecursion}
use Rattle.extent_pool.specs.Extents.{end_of, AreDisjoint}
use Rattle.extent_pool.specs.declared.extent.TheConstants.{UNIT}
use Rattle.extent_pool.specs.declared.extent.Extent.{Extent}
use Rattle.flattener.specs.Block.{BlockState}
use Rattle.flattener.specs.Fits.{SegmentFits}
use Rattle.index_core.specs.Kept.{AreBlocks, laid, last_number}
use Rattle.mapping.specs.Mapping.{Mapping, mapping_of}
use Rattle.mapping_growth.specs.Bodies.{AreBodies}
use Rattle.segment.specs.Encoding.{IsEncoding}
use Rattle.segment.specs.Live.{EntryState, LiveState, live_docs}
use Rattle.segment.specs.Old.{IsOldEncoding}
use Rattle.segment_builder.specs.Blocks.{blocks_of}
use Rattle.segment_parts.specs.Parts.{root_flags}
use Rattle.segment_parts.specs.declared.columns.Columns.{Columns}
use Rattle.store_text.specs.Header.{header_size}
use Rattle.store_text.specs.Pieces.{Piece}
use Rattle.store_text.specs.Record.{IsRecord, record_text}
use Rattle.store_text.specs.declared.record.RecordText.{RecordText}
use Rattle.store_text.specs.declared.record.Row.{Row}
use Rattle.tree_json.specs.Reading.{reading, value}
use Rattle.tree_json.specs.Text.{compact}
use Rattle.tree_json.specs.Value.{JsonValue}
use Rattle.commit_images.specs.Commits.{Commit}
use Rattle.commit_images.specs.Commits as commits
use Rattle.commit_images.specs.Keeping as keeping

-- ---- what is said

-- A segment as a commit names it: its bytes and the place of the first of them, the columns that they are of, and for each root
-- whether it is live.
pub record StoredSegment : Type 0 where
  pub piece : Piece
  pub columns : Columns
  pub live : List Bool

-- What a commit says. A record of the older form (`old`) is of the time when a mapping had one body and couldn't grow.
pub record Saying : Type 0 where
  -- whether the record and the segments are of the older form
  pub old : Bool
  -- the bodies of the mapping, in order, and whether sources add to it
  pub bodies : List JsonValue
  pub dynamic : Bool
  -- the next sequence number
  pub next : ℕ
  -- the segments in order
  pub segments : List StoredSegment

abbrev pub StoreCommit : Type 0
StoreCommit = Commit Saying

abbrev pub mapping_said : Saying → Mapping
mapping_said says = mapping_of says.bodies says.dynamic

-- ---- its entries

-- the live bits of a segment of which these roots are live: a document is live where the root of its block is
abbrev pub live_by : Columns → List Bool → LiveState
live_by columns live = record { docs = live_docs (root_flags columns.scopes) live; roots = live }

-- segments as entries of a view, with ids from a number on
abbrev pub entries_from : ℕ → List StoredSegment → List EntryState
entries_from id [] = []
entries_from id (segment ∷ segments) =
    record { id = id; columns = segment.columns; live = live_by segment.columns segment.live } ∷ entries_from (id + 1) segments

-- the view that opening gives: the segments with ids from 0 on
abbrev pub entries_of : StoreCommit → List EntryState
entries_of c = entries_from 0 c.says.segments

-- ---- its record

-- the indexes of the roots that are dead, from a number on
abbrev pub dead_from : ℕ → List Bool → List ℕ
dead_from index [] = []
dead_from index (live ∷ more) = if live then dead_from (index + 1) more else index ∷ dead_from (index + 1) more

abbrev pub dead_of : List Bool → List ℕ
dead_of live = dead_from 0 live

abbrev pub row_of : StoredSegment → Row
row_of segment = record { at = segment.piece.at; len = length segment.piece.bytes; dead = dead_of segment.live }

abbrev pub record_of : Saying → RecordText
record_of says = record {
  old = says.old;
  next = says.next;
  dynamic = says.dynamic;
  bodies = map compact says.bodies;
  rows = map row_of says.segments;
}

-- ---- its extents

abbrev pub extent_of : Piece → Extent
extent_of piece = record { at = piece.at; len = length piece.bytes }

-- the extents that a commit names, that of its record first
abbrev pub extents_of : StoreCommit → List Extent
extents_of c = map extent_of (c.body ∷ c.segments)

-- Extents of a store of at most so many bytes: each begins at a unit behind the header, has a byte or more and ends, in whole
-- units, within the limit; and no byte belongs to two of them.
pub record AreExtents (limit : ℕ) (extents : List Extent) : Type 0 where
  pub aligned : All (λ (extent : Extent). extent.at % UNIT ≡ 0) extents
  pub behind : All (λ (extent : Extent). header_size ≤ extent.at) extents
  pub some : All (λ (extent : Extent). 1 ≤ extent.len) extents
  pub within : All (λ (extent : Extent). end_of extent ≤ limit) extents
  pub disjoint : AreDisjoint extents

-- ---- when it is good

-- the last generation of a commit
abbrev pub last_generation : ℕ
last_generation = 2 ^ 62

-- the source of a block is the compact text of a value, and is read as that value
pub record HasSource (block : BlockState) : Type 0 where
  pub source : JsonValue
  pub text : block.root.source ≡ compact source
  pub reads : reading block.root.source ≡ value source

-- a value is what is read of its text
abbrev pub IsReadBack : JsonValue → Type 0
IsReadBack v = reading (compact v) ≡ value v

-- each source of a segment, of a dead root too, is read as the value whose text it is
abbrev pub HaveSources : Columns → Type 0
HaveSources columns = All HasSource (blocks_of columns)

-- the bytes of a segment in the older form, with as many scopes as the mapping has
pub record IsOldSegment (m : Mapping) (segment : StoredSegment) : Type 0 where
  pub encoding : IsOldEncoding segment.columns segment.piece.bytes
  pub scopes : length segment.columns.scopes + encoding.more ≡ length m.scopes

abbrev pub IsNewSegment : StoredSegment → Type 0
IsNewSegment segment = IsEncoding segment.columns segment.piece.bytes

-- a record of the older form: one body, to which no source adds
pub record IsOldForm (says : Saying) : Type 0 where
  pub one : length says.bodies ≡ 1
  pub dynamic : says.dynamic ≡ false
  pub segments : AllByRecursion (IsOldSegment (mapping_said says)) says.segments

abbrev pub IsOfForm : Bool → Saying → Type 0
IsOfForm true says = IsOldForm says
IsOfForm false says = AllByRecursion IsNewSegment says.segments

-- a segment is one that the mapping can have made, with a mark for each of its roots, and its sources are read back
pub record IsSegmentOf (m : Mapping) (segment : StoredSegment) : Type 0 where
  pub fits : SegmentFits m segment.columns
  pub marks : length segment.live ≡ length segment.columns.roots
  pub sources : HaveSources segment.columns

-- A commit of a store of at most so many bytes is good.
pub record IsGood (limit : ℕ) (c : StoreCommit) : Type 0 where
  -- its generation is from 1 to the last
  pub first : 1 ≤ c.generation
  pub last : c.generation ≤ last_generation
  -- its record is the text of what it says, and its segments stand where that names them
  pub numbers : IsRecord (record_of c.says)
  pub text : c.body.bytes ≡ record_text (record_of c.says)
  pub pieces : c.segments ≡ map (λ (segment : StoredSegment). segment.piece) c.says.segments
  pub places : AreExtents limit (extents_of c)
  -- the bodies are a mapping, each is read back from its text, and the segments are ones that the mapping can have made
  pub mapping : AreBodies c.says.bodies
  pub read : AllByRecursion IsReadBack c.says.bodies
  pub form : IsOfForm c.says.old c.says
  pub segments : AllByRecursion (IsSegmentOf (mapping_said c.says)) c.says.segments
  -- numbers ascend through all segments and are below the next one, no two live trees have the same id, and there are not too
  -- many live objects
  pub blocks : AreBlocks (laid (entries_of c) [] (length c.says.segments)) c.says.next
  pub next : c.says.next ≤ last_number

-- ---- what a file holds

-- Bytes hold this commit, or none, as a store of at most so many bytes.
abbrev pub Found : ℕ → List ℕ → Option StoreCommit → Type 0
Found limit file found = commits.Found (IsGood limit) file found

-- the bytes open as one of these does: both hold the same commit, or none
abbrev pub FoundAs : ℕ → (List ℕ → Type 0) → List ℕ → Type 0
FoundAs limit images file = keeping.FoundAs (IsGood limit) images file
