-- Commits, compactions and trims: which extents of the store file the segments and the record get, and what is kept then. A
-- commit writes the segments that the last one doesn't name and then its record, each where the first hole has room; a
-- compaction besides moves segments into holes nearer to the front (SQLite, "Atomic Commit"; the slots and the first fit are
-- this project's own).
use Rattle.std.specs.Prelude.{◌≡◌, ℕ, ◌+◌, ◌*◌, ◌^◌, ◌<◌, ◌==◌, max, Bool, not, if◌then◌else◌, List, [], ◌∷◌, ◌++◌, length, map, filter, find, drop, sum_by, Option, Some, None, unwrap_or, ⊤}
use Rattle.std.specs.List.{AllZip, Contains, flat_map, list_any}
use Rattle.extent_pool.specs.Placing.{NamedExtent, Room, room_for, last_ones, moved}
use Rattle.extent_pool.specs.declared.extent.Extent.{Extent}
use Rattle.flattener.specs.Block.{flats_of_tree, root_of_tree}
use Rattle.layout.specs.Layout.{Marked, SegmentOf, dead_count, sealed}
use Rattle.mapping.specs.Mapping.{Mapping}
use Rattle.reply_text.specs.declared.refusal.Refusal.TheVariants.{StoreFull}
use Rattle.reply_text.specs.declared.reply.Reply.{Reply}
use Rattle.reply_text.specs.declared.reply.Reply.TheVariants.{Committed, Compacted, Refused, Trimmed}
use Rattle.segment.specs.Flat.{flats_of, roots_of}
use Rattle.segment_parts.specs.Agree.{AreColumns}
use Rattle.segment_parts.specs.Text.{segment_text}
use Rattle.segment_parts.specs.declared.columns.Columns.{Columns}
use Rattle.tree_json.specs.Text.{compact}
use Rattle.tree_json.specs.Value.{JsonValue}
use Rattle.tree_objects.specs.Tree.{Tree}
use Rattle.machine.specs.Answer.{Answer, answers, stores, closing, writing}
use Rattle.machine.specs.State.{Kept, State, sealed_state}
use Rattle.machine.specs.declared.limits.Limits.{Limits}

-- ---- how long the texts are

-- A segment takes so many bytes: it is written as the text of columns that agree and that are those of its trees.
pub record IsSizeOf (m : Mapping) (segment : SegmentOf Tree) (size : ℕ) : Type 0 where
  pub columns : Columns
  pub agree : AreColumns columns
  pub flats : flats_of columns ≡ flat_map (λ (tree : Marked Tree). flats_of_tree m tree.item) segment.items
  pub roots : roots_of columns ≡ map (λ (tree : Marked Tree). root_of_tree m tree.item) segment.items
  pub long : size ≡ length (segment_text columns)

-- the last commit names the segment
abbrev pub is_named : List NamedExtent → SegmentOf Tree → Bool
is_named named segment = list_any (λ (it : NamedExtent). it.id == segment.id) named

-- those that a commit has to write
abbrev pub new_segments : State → List (SegmentOf Tree)
new_segments state = filter (λ (segment : SegmentOf Tree). not (is_named state.kept.segments segment)) state.layout.segments

-- they take so many bytes
abbrev pub AreSizes : Option Mapping → State → List ℕ → Type 0
AreSizes None state sizes = ⊤
AreSizes (Some m) state sizes = AllZip (IsSizeOf m) (new_segments state) sizes

-- a body stands behind the length of its text
abbrev pub body_size : JsonValue → ℕ
body_size body = 4 + length (compact body)

-- for a segment its place, its length and its dead roots, behind their number
abbrev pub row_size : SegmentOf Tree → ℕ
row_size segment = 20 + 4 * dead_count segment

-- the bytes of a commit's record: its sign, the next sequence number, the flag, the bodies and the segments, behind their numbers
abbrev pub record_size : Mapping → State → ℕ
record_size m state = 21 + sum_by body_size m.bodies + sum_by row_size state.layout.segments

-- ---- where they go

-- the header of a store file is always taken
abbrev pub header : Extent
header = record { at = 0; len = 2048 }

-- room for what a commit writes, besides what the last one names
abbrev pub room_in : Limits → List ℕ → Mapping → State → Option Room
room_in limits sizes m state = room_for limits.store_bytes (header ∷ state.kept.taken) sizes (record_size m state)

abbrev pub has_extent_id : ℕ → NamedExtent → Bool
has_extent_id id named = named.id == id

-- a segment with the extent that it has, or with the first of the new ones
abbrev pub named_first : ℕ → Option NamedExtent → List Extent → List NamedExtent
named_first id (Some own) extents = own ∷ []
named_first id None [] = []
named_first id None (extent ∷ extents) = record { id = id; extent = extent } ∷ []

-- what is left of these
abbrev pub left_behind : Option NamedExtent → List Extent → List Extent
left_behind (Some own) extents = extents
left_behind None extents = drop 1 extents

-- segments with the extents that they have, and the others with the new ones in order
abbrev pub named : List NamedExtent → List ℕ → List Extent → List NamedExtent
named known [] extents = []
named known (id ∷ ids) extents =
    named_first id (find (has_extent_id id) known) extents ++ named known ids (left_behind (find (has_extent_id id) known) extents)

abbrev pub segment_ids : State → List ℕ
segment_ids state = map (λ (segment : SegmentOf Tree). segment.id) state.layout.segments

-- the segments of the layout that have an extent
abbrev pub placed_segments : State → List NamedExtent
placed_segments state = filter (λ (it : NamedExtent). list_any (λ (id : ℕ). id == it.id) (segment_ids state)) state.kept.segments

-- Of those that stand last in the file so many are gone through, each of which moves where a hole before it has room; what is
-- written anew is taken then, and what is left behind as well.
abbrev pub moves_in : Limits → ℕ → Room → State → List NamedExtent
moves_in limits most room state =
    moved limits.store_bytes (room.record_extent ∷ room.segments ++ header ∷ state.kept.taken)
    (last_ones most limits.store_bytes (placed_segments state))

-- it stands before where the segment with its id stood
abbrev pub MovesDown : List NamedExtent → NamedExtent → Type 0
MovesDown before it = (own : NamedExtent) × Contains before own × (it.id ≡ own.id) × (it.extent.at < own.extent.at)

abbrev pub with_move : List NamedExtent → NamedExtent → NamedExtent
with_move moves it = unwrap_or (find (has_extent_id it.id) moves) it

-- the segments of the layout as a commit names them
abbrev pub named_by : Room → List NamedExtent → State → List NamedExtent
named_by room moves state = map (with_move moves) (named state.kept.segments (segment_ids state) room.segments)

abbrev pub extent_in : NamedExtent → Extent
extent_in it = it.extent

-- what is kept of a commit
abbrev pub kept_by : Room → List NamedExtent → State → Kept
kept_by room moves state = record {
  segments = named_by room moves state;
  taken = room.record_extent ∷ map extent_in (named_by room moves state);
  generation = state.kept.generation + 1;
}

abbrev pub with_kept : Kept → State → State
with_kept kept state = record state { kept = kept }

-- a commit was acknowledged: its generation is the next one, and it names each segment of the sealed layout, in order
pub record IsKept (before after : State) : Type 0 where
  pub layout : after.layout ≡ sealed before.layout
  pub generation : after.kept.generation ≡ before.kept.generation + 1
  pub names : map (λ (it : NamedExtent). it.id) after.kept.segments ≡ segment_ids (sealed_state before)

-- ---- the commands

-- the greatest commit generation that there is
abbrev pub last_generation : ℕ
last_generation = 2 ^ 62

-- a commit wants a generation of its own
abbrev pub if_below : (State → Answer) → State → Answer
if_below command state = if state.kept.generation == last_generation then answers (Refused StoreFull) state else command state

-- and room, which is asked for once the slot is closed
abbrev pub if_room : Option Room → (Room → Answer) → State → Answer
if_room None command state = stores closing (Refused StoreFull) state
if_room (Some room) command state = command room

-- it is acknowledged, and the store keeps it
abbrev pub commit_done : Room → List NamedExtent → Reply → State → Answer
commit_done room moves reply state = stores writing reply (with_kept (kept_by room moves state) state)

unfoldable pub commit_step : Limits → List ℕ → Mapping → State → Answer
commit_step limits sizes m state =
    if_below (if_room (room_in limits sizes m state) (λ room. commit_done room [] (Committed state.content.next) state)) state

abbrev pub compact_done : Limits → ℕ → State → Room → Answer
compact_done limits most state room =
    commit_done room (moves_in limits most room state) (Compacted (length (moves_in limits most room state)) state.content.next) state

unfoldable pub compact_step : Limits → List ℕ → ℕ → Mapping → State → Answer
compact_step limits sizes most m state = if_below (if_room (room_in limits sizes m state) (compact_done limits most state)) state

-- where the last of the extents ends, or the header
abbrev pub named_end : List Extent → ℕ
named_end [] = header.len
named_end (extent ∷ extents) = max (extent.at + extent.len) (named_end extents)

-- the file is cut there
unfoldable pub trim_step : Mapping → State → Answer
trim_step m state = stores closing (Trimmed (named_end state.kept.taken)) state
