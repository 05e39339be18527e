-- How items are laid out in segments, and what sealing, a merge and a change do to them. The machine lays out trees so, and
-- the index blocks: what is said here looks into an item by the tests that it is given alone (Lucene, `IndexWriter`: a buffer
-- that is flushed into segments, deletes by marks, merges of neighbours).
use Rattle.std.specs.Prelude.{ℕ, suc, zero, ◌+◌, ◌-◌, ◌*◌, ◌==◌, nat_le, nat_lt, Bool, true, false, not, ◌&&◌, if◌then◌else◌, List, [], ◌∷◌, ◌++◌, length, map, filter, take, drop, get_or, Option, Some, None}
use Rattle.std.specs.List.{flat_map, list_any}

-- an item in a segment, and whether it is live
pub record Marked (A : Type 0) : Type 0 where
  pub item : A
  pub live : Bool

-- a segment: its id, and its items in order; it is never empty
pub record SegmentOf (A : Type 0) : Type 0 where
  pub id : ℕ
  pub items : List (Marked A)

-- a merge that is open: its id, the index of its first segment, how many segments it merges, and the roots left to copy
pub record OpenMerge : Type 0 where
  pub id : ℕ
  pub from : ℕ
  pub count : ℕ
  pub left : ℕ

-- the segments in order and the items in the buffer behind them, the open merges by ascending id, how many merges were
-- started and segments made, and the factor by which neighbours are merged, where they are
pub record Layout (A : Type 0) : Type 0 where
  pub segments : List (SegmentOf A)
  pub buffer : List A
  pub merges : List OpenMerge
  pub started : ℕ
  pub made : ℕ
  pub factor : Option ℕ

abbrev pub empty_layout : {A : Type 0} → Layout A
empty_layout {A} = record { segments = []; buffer = []; merges = []; started = 0; made = 0; factor = None }

-- ---- what is live

abbrev pub is_live : {A : Type 0} → Marked A → Bool
is_live {A} marked = marked.live

abbrev pub item_in : {A : Type 0} → Marked A → A
item_in {A} marked = marked.item

-- the live items of a segment
abbrev pub live_in : {A : Type 0} → SegmentOf A → List A
live_in {A} segment = map item_in (filter is_live segment.items)

-- the live items in order: those of the segments, then those in the buffer
abbrev pub live_items : {A : Type 0} → Layout A → List A
live_items {A} layout = flat_map live_in layout.segments ++ layout.buffer

abbrev pub live_count : {A : Type 0} → SegmentOf A → ℕ
live_count {A} segment = length (live_in segment)

abbrev pub dead_count : {A : Type 0} → SegmentOf A → ℕ
dead_count {A} segment = length segment.items - live_count segment

-- ---- a range of segments gives way to one

-- an item that was just laid down
abbrev pub alive : {A : Type 0} → A → Marked A
alive {A} item = record { item = item; live = true }

-- the segment of some items; of none there is none
abbrev pub segment_of : {A : Type 0} → ℕ → List A → List (SegmentOf A)
segment_of {A} id [] = []
segment_of {A} id (x ∷ xs) = record { id = id; items = map alive (x ∷ xs) } ∷ []

-- the live items of some segments that stand one behind the other
abbrev pub live_of_range : {A : Type 0} → ℕ → ℕ → Layout A → List A
live_of_range {A} from count layout = flat_map live_in (take count (drop from layout.segments))

-- an open merge behind a range moves by as many places as that gets shorter
abbrev pub shifted : ℕ → ℕ → ℕ → OpenMerge → OpenMerge
shifted from count by merge = if nat_le (from + count) merge.from then record merge { from = merge.from - count + by } else merge

-- the segment that a range gives way to, if any of its items is live
abbrev pub merged_range : {A : Type 0} → ℕ → ℕ → Layout A → List (SegmentOf A)
merged_range {A} from count layout = segment_of layout.made (live_of_range from count layout)

-- The segments of a range give way to one of their live items, or to none.
abbrev pub remade : {A : Type 0} → ℕ → ℕ → Layout A → Layout A
remade {A} from count layout = record layout {
  segments = take from layout.segments ++ (merged_range from count layout ++ drop (from + count) layout.segments);
  merges = map (shifted from count (length (merged_range from count layout))) layout.merges;
  made = layout.made + length (merged_range from count layout);
}

-- ---- settling: what is merged without being asked, where there is a factor

abbrev pub no_segment : {A : Type 0} → SegmentOf A
no_segment {A} = record { id = 0; items = [] }

abbrev pub segment_at : {A : Type 0} → Layout A → ℕ → SegmentOf A
segment_at {A} layout index = get_or layout.segments index no_segment

abbrev pub covers : ℕ → OpenMerge → Bool
covers index merge = nat_le merge.from index && nat_lt index (merge.from + merge.count)

-- no open merge has the segment
abbrev pub is_free : {A : Type 0} → Layout A → ℕ → Bool
is_free {A} layout index = not (list_any (covers index) layout.merges)

-- it is free, and all of it is dead
abbrev pub is_spent : {A : Type 0} → Layout A → ℕ → Bool
is_spent {A} layout index = is_free layout index && (live_count (segment_at layout index) == 0)

-- it is free, and more of it is dead than live
abbrev pub is_half_dead : {A : Type 0} → Layout A → ℕ → Bool
is_half_dead {A} layout index = is_free layout index && nat_lt (live_count (segment_at layout index)) (dead_count (segment_at layout index))

-- it and the next one are free, and it has less than the factor times as many live items as the next one
abbrev pub are_uneven : {A : Type 0} → ℕ → Layout A → ℕ → Bool
are_uneven {A} factor layout index =
    is_free layout index
    && (is_free layout (index + 1)
    && nat_lt (live_count (segment_at layout index)) (factor * live_count (segment_at layout (index + 1))))

-- each segment that passes is remade by itself: the last first, so that the indexes of those before it stay
abbrev pub each_remade : {A : Type 0} → (Layout A → ℕ → Bool) → ℕ → Layout A → Layout A
each_remade {A} test zero layout = layout
each_remade {A} test (suc n) layout = each_remade test n (if test layout n then remade n 1 layout else layout)

-- the last index below a bound that passes
abbrev pub last_below : (ℕ → Bool) → ℕ → Option ℕ
last_below test zero = None
last_below test (suc n) = if test n then Some n else last_below test n

abbrev pub last_uneven : {A : Type 0} → ℕ → Layout A → Option ℕ
last_uneven {A} factor layout = last_below (are_uneven factor layout) (length layout.segments - 1)

abbrev pub evened_at : {A : Type 0} → Option ℕ → Layout A → Layout A
evened_at {A} None layout = layout
evened_at {A} (Some index) layout = remade index 2 layout

-- the last two neighbours that are uneven are merged, and so on; each time there is one segment less
abbrev pub evened : {A : Type 0} → ℕ → ℕ → Layout A → Layout A
evened {A} zero factor layout = layout
evened {A} (suc steps) factor layout = evened steps factor (evened_at (last_uneven factor layout) layout)

abbrev pub all_remade : {A : Type 0} → (Layout A → ℕ → Bool) → Layout A → Layout A
all_remade {A} test layout = each_remade test (length layout.segments) layout

abbrev pub all_evened : {A : Type 0} → ℕ → Layout A → Layout A
all_evened {A} factor layout = evened (length layout.segments) factor layout

-- spent segments go, uneven neighbours are merged, and then those that are dead by more than a half
abbrev pub settled : {A : Type 0} → Option ℕ → Layout A → Layout A
settled {A} None layout = layout
settled {A} (Some factor) layout = all_remade is_half_dead (all_evened factor (all_remade is_spent layout))

-- ---- sealing

-- the buffer becomes the last segment; an empty one becomes none
abbrev pub with_buffer_last : {A : Type 0} → Layout A → Layout A
with_buffer_last {A} layout = record layout {
  segments = layout.segments ++ segment_of layout.made layout.buffer;
  buffer = [];
  made = layout.made + length (segment_of layout.made layout.buffer);
}

unfoldable pub sealed : {A : Type 0} → Layout A → Layout A
sealed {A} layout = settled layout.factor (with_buffer_last layout)

-- ---- a change

abbrev pub staying : {A : Type 0} → (A → Bool) → A → Bool
staying {A} goes item = not (goes item)

abbrev pub killed_if : {A : Type 0} → (A → Bool) → Marked A → Marked A
killed_if {A} goes marked = if goes marked.item then record marked { live = false } else marked

abbrev pub killed_in : {A : Type 0} → (A → Bool) → SegmentOf A → SegmentOf A
killed_in {A} goes segment = record segment { items = map (killed_if goes) segment.items }

-- the items that go leave the buffer, or are marked dead
abbrev pub killed : {A : Type 0} → (A → Bool) → Layout A → Layout A
killed {A} goes layout = record layout { segments = map (killed_in goes) layout.segments; buffer = filter (staying goes) layout.buffer }

-- how many items the buffer holds
abbrev pub buffer_size : ℕ
buffer_size = 256

-- a full buffer is sealed
abbrev pub with_room : {A : Type 0} → Layout A → Layout A
with_room {A} layout = if nat_le buffer_size (length layout.buffer) then sealed layout else layout

abbrev pub with_new : {A : Type 0} → List A → Layout A → Layout A
with_new {A} new layout = record layout { buffer = layout.buffer ++ new }

-- an accepted change: a full buffer is sealed, what goes is taken out, and what is new stands last in the buffer
unfoldable pub with_change : {A : Type 0} → (A → Bool) → List A → Layout A → Layout A
with_change {A} goes new layout = with_new new (killed goes (with_room layout))
