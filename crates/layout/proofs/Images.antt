-- What is done to a layout is done alike to a layout of other items.
use Rattle.std.proofs.Common.{◌≡◌, ℕ, zero, suc, ◌+◌, ◌-◌, ◌*◌, ◌==◌, nat_le, nat_lt, Bool, true, false, not, ◌&&◌, cond, List, [], ◌∷◌, ◌++◌, length, map, filter, take, drop, get_or, Option, Some, None, refl, sym, ap, ◌∙◌}
use Rattle.std.specs.List.{flat_map, take-map, drop-map}
use Rattle.std.proofs.lemmas.List.{length-map, map-append}
use Rattle.layout.specs.Layout.{Marked, SegmentOf, Layout, is_live, item_in, live_in, live_items, live_count, dead_count, alive, segment_of, live_of_range, shifted, merged_range, remade, no_segment, segment_at, is_free, is_spent, is_half_dead, are_uneven, each_remade, last_below, last_uneven, evened_at, evened, all_remade, all_evened, settled, with_buffer_last, sealed, staying, killed_if, killed_in, killed, buffer_size, with_room, with_new, with_change}
use Rattle.layout.specs.As.{marked_as, segment_as, layout_as}

-- cases of a test
by_test : (P : Bool → Type 0) (b : Bool) → P true → P false → P b
by_test P true t f = t
by_test P false t f = f

-- ---- what is live

live_marked : {A B : Type 0} (f : A → B) (xs : List (Marked A)) → map item_in (filter is_live (map (marked_as f) xs)) ≡ map f (map item_in (filter is_live xs))
live_marked f [] = refl
live_marked f (x ∷ xs) = by_test (λ b. map item_in (cond b (marked_as f x ∷ filter is_live (map (marked_as f) xs)) (filter is_live (map (marked_as f) xs))) ≡ map f (map item_in (cond b (x ∷ filter is_live xs) (filter is_live xs))))
    x.live (ap (λ zs. f x.item ∷ zs) (live_marked f xs)) (live_marked f xs)

pub live_in_as : {A B : Type 0} (f : A → B) (segment : SegmentOf A) → live_in (segment_as f segment) ≡ map f (live_in segment)
live_in_as f segment = live_marked f segment.items

pub live_each : {A B : Type 0} (f : A → B) (segments : List (SegmentOf A)) → flat_map live_in (map (segment_as f) segments) ≡ map f (flat_map live_in segments)
live_each f [] = refl
live_each f (segment ∷ segments) =
    ap (λ xs. xs ++ flat_map live_in (map (segment_as f) segments)) (live_in_as f segment)
    ∙ ap (λ xs. map f (live_in segment) ++ xs) (live_each f segments)
    ∙ sym (map-append f (live_in segment) (flat_map live_in segments))

-- the live items of a layout
pub live_items_as : {A B : Type 0} (f : A → B) (layout : Layout A) → live_items (layout_as f layout) ≡ map f (live_items layout)
live_items_as f layout = ap (λ xs. xs ++ map f layout.buffer) (live_each f layout.segments) ∙ sym (map-append f (flat_map live_in layout.segments) layout.buffer)

pub live_count_as : {A B : Type 0} (f : A → B) (segment : SegmentOf A) → live_count (segment_as f segment) ≡ live_count segment
live_count_as f segment = ap length (live_in_as f segment) ∙ length-map (live_in segment) f

pub dead_count_as : {A B : Type 0} (f : A → B) (segment : SegmentOf A) → dead_count (segment_as f segment) ≡ dead_count segment
dead_count_as f segment = rw (length-map segment.items (marked_as f), live_count_as f segment) refl

-- ---- a range gives way

alive_as : {A B : Type 0} (f : A → B) (xs : List A) → map alive (map f xs) ≡ map (marked_as f) (map alive xs)
alive_as f [] = refl
alive_as f (x ∷ xs) = ap (λ zs. alive (f x) ∷ zs) (alive_as f xs)

segment_of_as : {A B : Type 0} (f : A → B) (id : ℕ) (xs : List A) → segment_of id (map f xs) ≡ map (segment_as f) (segment_of id xs)
segment_of_as f id [] = refl
segment_of_as f id (x ∷ xs) = ap (λ zs. record { id = id; items = alive (f x) ∷ zs } ∷ []) (alive_as f xs)

pub live_of_range_as : {A B : Type 0} (f : A → B) (from count : ℕ) (layout : Layout A) → live_of_range from count (layout_as f layout) ≡ map f (live_of_range from count layout)
live_of_range_as f from count layout =
    ap (λ xs. flat_map live_in (take count xs)) (drop-map (segment_as f) from layout.segments)
    ∙ ap (flat_map live_in) (take-map (segment_as f) count (drop from layout.segments))
    ∙ live_each f (take count (drop from layout.segments))

merged_range_as : {A B : Type 0} (f : A → B) (from count : ℕ) (layout : Layout A) → merged_range from count (layout_as f layout) ≡ map (segment_as f) (merged_range from count layout)
merged_range_as f from count layout = ap (segment_of layout.made) (live_of_range_as f from count layout) ∙ segment_of_as f layout.made (live_of_range from count layout)

merged_length : {A B : Type 0} (f : A → B) (from count : ℕ) (layout : Layout A) → length (merged_range from count (layout_as f layout)) ≡ length (merged_range from count layout)
merged_length f from count layout = ap length (merged_range_as f from count layout) ∙ length-map (merged_range from count layout) (segment_as f)

pub remade_as : {A B : Type 0} (f : A → B) (from count : ℕ) (layout : Layout A) → remade from count (layout_as f layout) ≡ layout_as f (remade from count layout)
remade_as f from count layout =
    let n = merged_length f from count layout in
    let same : take from (map (segment_as f) layout.segments) ++ (merged_range from count (layout_as f layout) ++ drop (from + count) (map (segment_as f) layout.segments))
    ≡ map (segment_as f) (take from layout.segments ++ (merged_range from count layout ++ drop (from + count) layout.segments)) =
    ap (λ xs. xs ++ (merged_range from count (layout_as f layout) ++ drop (from + count) (map (segment_as f) layout.segments))) (take-map (segment_as f) from layout.segments)
    ∙ ap (λ xs. map (segment_as f) (take from layout.segments) ++ (xs ++ drop (from + count) (map (segment_as f) layout.segments))) (merged_range_as f from count layout)
    ∙ ap (λ xs. map (segment_as f) (take from layout.segments) ++ (map (segment_as f) (merged_range from count layout) ++ xs)) (drop-map (segment_as f) (from + count) layout.segments)
    ∙ ap (λ xs. map (segment_as f) (take from layout.segments) ++ xs) (sym (map-append (segment_as f) (merged_range from count layout) (drop (from + count) layout.segments)))
    ∙ sym (map-append (segment_as f) (take from layout.segments) (merged_range from count layout ++ drop (from + count) layout.segments)) in
    λ i. record {
      segments = same i;
      buffer = map f layout.buffer;
      merges = map (shifted from count (n i)) layout.merges;
      started = layout.started;
      made = layout.made + n i;
      factor = layout.factor;
    }

-- ---- settling

at_as : {A B : Type 0} (f : A → B) (segments : List (SegmentOf A)) (index : ℕ) → get_or (map (segment_as f) segments) index no_segment ≡ segment_as f (get_or segments index no_segment)
at_as f [] index = refl
at_as f (segment ∷ segments) zero = refl
at_as f (segment ∷ segments) (suc index) = at_as f segments index

segment_at_as : {A B : Type 0} (f : A → B) (layout : Layout A) (index : ℕ) → segment_at (layout_as f layout) index ≡ segment_as f (segment_at layout index)
segment_at_as f layout index = at_as f layout.segments index

live_at : {A B : Type 0} (f : A → B) (layout : Layout A) (index : ℕ) → live_count (segment_at (layout_as f layout) index) ≡ live_count (segment_at layout index)
live_at f layout index = ap live_count (segment_at_as f layout index) ∙ live_count_as f (segment_at layout index)

dead_at : {A B : Type 0} (f : A → B) (layout : Layout A) (index : ℕ) → dead_count (segment_at (layout_as f layout) index) ≡ dead_count (segment_at layout index)
dead_at f layout index = ap dead_count (segment_at_as f layout index) ∙ dead_count_as f (segment_at layout index)

spent_as : {A B : Type 0} (f : A → B) (layout : Layout A) (index : ℕ) → is_spent (layout_as f layout) index ≡ is_spent layout index
spent_as f layout index = ap (λ n. is_free layout index && (n == 0)) (live_at f layout index)

half_dead_as : {A B : Type 0} (f : A → B) (layout : Layout A) (index : ℕ) → is_half_dead (layout_as f layout) index ≡ is_half_dead layout index
half_dead_as f layout index = λ i. is_free layout index && nat_lt (live_at f layout index i) (dead_at f layout index i)

uneven_as : {A B : Type 0} (f : A → B) (factor : ℕ) (layout : Layout A) (index : ℕ) → are_uneven factor (layout_as f layout) index ≡ are_uneven factor layout index
uneven_as f factor layout index = λ i. is_free layout index && (is_free layout (index + 1) && nat_lt (live_at f layout index i) (factor * live_at f layout (index + 1) i))

if_as : {A B : Type 0} (f : A → B) (n : ℕ) (layout : Layout A) (b : Bool)
    → cond b (remade n 1 (layout_as f layout)) (layout_as f layout) ≡ layout_as f (cond b (remade n 1 layout) layout)
if_as f n layout true = remade_as f n 1 layout
if_as f n layout false = refl

each_as : {A B : Type 0} (f : A → B) (here : Layout A → ℕ → Bool) (there : Layout B → ℕ → Bool) → ((layout : Layout A) (index : ℕ) → there (layout_as f layout) index ≡ here layout index)
    → (n : ℕ) (layout : Layout A) → each_remade there n (layout_as f layout) ≡ layout_as f (each_remade here n layout)
each_as f here there same zero layout = refl
each_as f here there same (suc n) layout =
    ap (λ b. each_remade there n (cond b (remade n 1 (layout_as f layout)) (layout_as f layout))) (same layout n)
    ∙ ap (each_remade there n) (if_as f n layout (here layout n))
    ∙ each_as f here there same n (cond (here layout n) (remade n 1 layout) layout)

all_as : {A B : Type 0} (f : A → B) (here : Layout A → ℕ → Bool) (there : Layout B → ℕ → Bool) → ((layout : Layout A) (index : ℕ) → there (layout_as f layout) index ≡ here layout index)
    → (layout : Layout A) → all_remade there (layout_as f layout) ≡ layout_as f (all_remade here layout)
all_as f here there same layout =
    ap (λ n. each_remade there n (layout_as f layout)) (length-map layout.segments (segment_as f))
    ∙ each_as f here there same (length layout.segments) layout

last_same : (here there : ℕ → Bool) → ((index : ℕ) → there index ≡ here index) → (n : ℕ) → last_below there n ≡ last_below here n
last_same here there same zero = refl
last_same here there same (suc n) = λ i. cond (same n i) (Some n) (last_same here there same n i)

last_uneven_as : {A B : Type 0} (f : A → B) (factor : ℕ) (layout : Layout A) → last_uneven factor (layout_as f layout) ≡ last_uneven factor layout
last_uneven_as f factor layout =
    ap (λ n. last_below (are_uneven factor (layout_as f layout)) (n - 1)) (length-map layout.segments (segment_as f))
    ∙ last_same (are_uneven factor layout) (are_uneven factor (layout_as f layout)) (uneven_as f factor layout) (length layout.segments - 1)

evened_at_as : {A B : Type 0} (f : A → B) (index : Option ℕ) (layout : Layout A) → evened_at index (layout_as f layout) ≡ layout_as f (evened_at index layout)
evened_at_as f None layout = refl
evened_at_as f (Some index) layout = remade_as f index 2 layout

evened_as : {A B : Type 0} (f : A → B) (steps factor : ℕ) (layout : Layout A) → evened steps factor (layout_as f layout) ≡ layout_as f (evened steps factor layout)
evened_as f zero factor layout = refl
evened_as f (suc steps) factor layout =
    ap (λ index. evened steps factor (evened_at index (layout_as f layout))) (last_uneven_as f factor layout)
    ∙ ap (evened steps factor) (evened_at_as f (last_uneven factor layout) layout)
    ∙ evened_as f steps factor (evened_at (last_uneven factor layout) layout)

all_evened_as : {A B : Type 0} (f : A → B) (factor : ℕ) (layout : Layout A) → all_evened factor (layout_as f layout) ≡ layout_as f (all_evened factor layout)
all_evened_as f factor layout =
    ap (λ n. evened n factor (layout_as f layout)) (length-map layout.segments (segment_as f))
    ∙ evened_as f (length layout.segments) factor layout

settled_as : {A B : Type 0} (f : A → B) (factor : Option ℕ) (layout : Layout A) → settled factor (layout_as f layout) ≡ layout_as f (settled factor layout)
settled_as f None layout = refl
settled_as f (Some factor) layout =
    ap (λ l. all_remade is_half_dead (all_evened factor l)) (all_as f is_spent is_spent (spent_as f) layout)
    ∙ ap (all_remade is_half_dead) (all_evened_as f factor (all_remade is_spent layout))
    ∙ all_as f is_half_dead is_half_dead (half_dead_as f) (all_evened factor (all_remade is_spent layout))

-- ---- sealing

with_last_as : {A B : Type 0} (f : A → B) (layout : Layout A) → with_buffer_last (layout_as f layout) ≡ layout_as f (with_buffer_last layout)
with_last_as f layout =
    let new = segment_of_as f layout.made layout.buffer in
    let n : length (segment_of layout.made (map f layout.buffer)) ≡ length (segment_of layout.made layout.buffer) =
    ap length new ∙ length-map (segment_of layout.made layout.buffer) (segment_as f) in
    let same = ap (λ xs. map (segment_as f) layout.segments ++ xs) new ∙ sym (map-append (segment_as f) layout.segments (segment_of layout.made layout.buffer)) in
    λ i. record {
      segments = same i;
      buffer = [];
      merges = layout.merges;
      started = layout.started;
      made = layout.made + n i;
      factor = layout.factor;
    }

pub sealed_as : {A B : Type 0} (f : A → B) (layout : Layout A) → sealed (layout_as f layout) ≡ layout_as f (sealed layout)
unfolding sealed
sealed_as f layout = ap (settled layout.factor) (with_last_as f layout) ∙ settled_as f layout.factor (with_buffer_last layout)

-- ---- a change

killed_marked : {A B : Type 0} (f : A → B) (here : A → Bool) (there : B → Bool) → ((a : A) → there (f a) ≡ here a)
    → (xs : List (Marked A)) → map (killed_if there) (map (marked_as f) xs) ≡ map (marked_as f) (map (killed_if here) xs)
killed_marked f here there same [] = refl
killed_marked f here there same (x ∷ xs) = λ i. one i ∷ killed_marked f here there same xs i where
  two : (b : Bool) → cond b (record { item = f x.item; live = false }) (marked_as f x) ≡ marked_as f (cond b (record x { live = false }) x)
  two true = refl
  two false = refl

  one : killed_if there (marked_as f x) ≡ marked_as f (killed_if here x)
  one = ap (λ b. cond b (record { item = f x.item; live = false }) (marked_as f x)) (same x.item) ∙ two (here x.item)

killed_each : {A B : Type 0} (f : A → B) (here : A → Bool) (there : B → Bool) → ((a : A) → there (f a) ≡ here a)
    → (xs : List (SegmentOf A)) → map (killed_in there) (map (segment_as f) xs) ≡ map (segment_as f) (map (killed_in here) xs)
killed_each f here there same [] = refl
killed_each f here there same (x ∷ xs) = λ i. record { id = x.id; items = killed_marked f here there same x.items i } ∷ killed_each f here there same xs i

staying_as : {A B : Type 0} (f : A → B) (here : A → Bool) (there : B → Bool) → ((a : A) → there (f a) ≡ here a)
    → (xs : List A) → filter (staying there) (map f xs) ≡ map f (filter (staying here) xs)
staying_as f here there same [] = refl
staying_as f here there same (x ∷ xs) = let more = staying_as f here there same xs in
    ap (λ b. cond (not b) (f x ∷ filter (staying there) (map f xs)) (filter (staying there) (map f xs))) (same x)
    ∙ elim (here x) as (λ b. cond (not b) (f x ∷ filter (staying there) (map f xs)) (filter (staying there) (map f xs)) ≡ map f (cond (not b) (x ∷ filter (staying here) xs) (filter (staying here) xs))) [
      | true ↦ more
      | false ↦ ap (λ ys. f x ∷ ys) more
    ]

killed_as : {A B : Type 0} (f : A → B) (here : A → Bool) (there : B → Bool) → ((a : A) → there (f a) ≡ here a)
    → (layout : Layout A) → killed there (layout_as f layout) ≡ layout_as f (killed here layout)
killed_as f here there same layout = λ i. record {
  segments = killed_each f here there same layout.segments i;
  buffer = staying_as f here there same layout.buffer i;
  merges = layout.merges;
  started = layout.started;
  made = layout.made;
  factor = layout.factor;
}

with_room_as : {A B : Type 0} (f : A → B) (layout : Layout A) → with_room (layout_as f layout) ≡ layout_as f (with_room layout)
with_room_as f layout =
    ap (λ n. cond (nat_le buffer_size n) (sealed (layout_as f layout)) (layout_as f layout)) (length-map layout.buffer f)
    ∙ one (nat_le buffer_size (length layout.buffer)) where
      one : (b : Bool) → cond b (sealed (layout_as f layout)) (layout_as f layout) ≡ layout_as f (cond b (sealed layout) layout)
      one true = sealed_as f layout
      one false = refl

with_new_as : {A B : Type 0} (f : A → B) (new : List A) (layout : Layout A) → with_new (map f new) (layout_as f layout) ≡ layout_as f (with_new new layout)
with_new_as f new layout = ap (λ xs. record { segments = map (segment_as f) layout.segments; buffer = xs; merges = layout.merges; started = layout.started; made = layout.made; factor = layout.factor })
    (sym (map-append f layout.buffer new))

pub change_as : {A B : Type 0} (f : A → B) (here : A → Bool) (there : B → Bool) → ((a : A) → there (f a) ≡ here a)
    → (new : List A) (layout : Layout A) → with_change there (map f new) (layout_as f layout) ≡ layout_as f (with_change here new layout)
unfolding with_change
change_as f here there same new layout =
    ap (λ l. with_new (map f new) (killed there l)) (with_room_as f layout)
    ∙ ap (with_new (map f new)) (killed_as f here there same (with_room layout))
    ∙ with_new_as f new (killed here (with_room layout))
