-- Which items are live after what is done to a layout.
use Rattle.std.proofs.Common.{◌≡◌, ℕ, zero, suc, ◌+◌, nat_le, Bool, true, false, not, cond, List, [], ◌∷◌, ◌++◌, length, map, filter, take, drop, Option, Some, None, refl, sym, ap, ◌∙◌, append_assoc, append-nil, take-append-drop, drop-drop}
use Rattle.std.specs.List.{flat_map}
use Rattle.std.proofs.lemmas.List.Concat.{flat_map-append}
use Rattle.layout.specs.Layout.{Marked, SegmentOf, Layout, is_live, item_in, live_in, live_items, alive, segment_of, live_of_range, merged_range, remade, is_spent, is_half_dead, each_remade, last_uneven, evened_at, evened, all_remade, all_evened, settled, with_buffer_last, sealed, staying, killed_if, killed_in, killed, buffer_size, with_room, with_new, with_change}

all_live : {A : Type 0} (xs : List A) → map item_in (filter is_live (map alive xs)) ≡ xs
all_live [] = refl
all_live (x ∷ xs) = ap (λ ys. x ∷ ys) (all_live xs)

-- a segment of some items has them live
live_of_segment : {A : Type 0} (id : ℕ) (xs : List A) → flat_map live_in (segment_of id xs) ≡ xs
live_of_segment id [] = refl
live_of_segment id (x ∷ xs) = append-nil (x ∷ map item_in (filter is_live (map alive xs))) ∙ ap (λ ys. x ∷ ys) (all_live xs)

split_in_three : {A : Type 0} (from count : ℕ) (segments : List (SegmentOf A))
    → flat_map live_in (take from segments) ++ (flat_map live_in (take count (drop from segments)) ++ flat_map live_in (drop (from + count) segments)) ≡ flat_map live_in segments
split_in_three from count segments =
    ap (λ xs. flat_map live_in (take from segments) ++ (flat_map live_in (take count (drop from segments)) ++ flat_map live_in xs)) (sym (drop-drop count from segments))
    ∙ ap (λ xs. flat_map live_in (take from segments) ++ xs) (sym (flat_map-append live_in (take count (drop from segments)) (drop count (drop from segments))))
    ∙ ap (λ xs. flat_map live_in (take from segments) ++ flat_map live_in xs) (take-append-drop count (drop from segments))
    ∙ sym (flat_map-append live_in (take from segments) (drop from segments))
    ∙ ap (flat_map live_in) (take-append-drop from segments)

segments_keep : {A : Type 0} (from count : ℕ) (layout : Layout A) → flat_map live_in (remade from count layout).segments ≡ flat_map live_in layout.segments
segments_keep from count layout =
    flat_map-append live_in (take from layout.segments) (merged_range from count layout ++ drop (from + count) layout.segments)
    ∙ ap (λ xs. flat_map live_in (take from layout.segments) ++ xs) (flat_map-append live_in (merged_range from count layout) (drop (from + count) layout.segments))
    ∙ ap (λ xs. flat_map live_in (take from layout.segments) ++ (xs ++ flat_map live_in (drop (from + count) layout.segments))) (live_of_segment layout.made (live_of_range from count layout))
    ∙ split_in_three from count layout.segments

-- a range that gives way to one segment loses none
pub remade_keeps : {A : Type 0} (from count : ℕ) (layout : Layout A) → live_items (remade from count layout) ≡ live_items layout
remade_keeps from count layout = ap (λ xs. xs ++ layout.buffer) (segments_keep from count layout)

each_keeps : {A : Type 0} (test : Layout A → ℕ → Bool) (n : ℕ) (layout : Layout A) → live_items (each_remade test n layout) ≡ live_items layout
each_keeps test zero layout = refl
each_keeps test (suc n) layout =
    each_keeps test n (cond (test layout n) (remade n 1 layout) layout)
    ∙ elim (test layout n) as (λ b. live_items (cond b (remade n 1 layout) layout) ≡ live_items layout) [
      | true ↦ remade_keeps n 1 layout
      | false ↦ refl
    ]

evened_at_keeps : {A : Type 0} (index : Option ℕ) (layout : Layout A) → live_items (evened_at index layout) ≡ live_items layout
evened_at_keeps None layout = refl
evened_at_keeps (Some index) layout = remade_keeps index 2 layout

evened_keeps : {A : Type 0} (steps factor : ℕ) (layout : Layout A) → live_items (evened steps factor layout) ≡ live_items layout
evened_keeps zero factor layout = refl
evened_keeps (suc steps) factor layout =
    evened_keeps steps factor (evened_at (last_uneven factor layout) layout) ∙ evened_at_keeps (last_uneven factor layout) layout

settled_keeps : {A : Type 0} (factor : Option ℕ) (layout : Layout A) → live_items (settled factor layout) ≡ live_items layout
settled_keeps None layout = refl
settled_keeps (Some factor) layout =
    each_keeps is_half_dead (length (all_evened factor (all_remade is_spent layout)).segments) (all_evened factor (all_remade is_spent layout))
    ∙ evened_keeps (length (all_remade is_spent layout).segments) factor (all_remade is_spent layout)
    ∙ each_keeps is_spent (length layout.segments) layout

with_last_keeps : {A : Type 0} (layout : Layout A) → live_items (with_buffer_last layout) ≡ live_items layout
with_last_keeps layout =
    append-nil (flat_map live_in (layout.segments ++ segment_of layout.made layout.buffer))
    ∙ flat_map-append live_in layout.segments (segment_of layout.made layout.buffer)
    ∙ ap (λ xs. flat_map live_in layout.segments ++ xs) (live_of_segment layout.made layout.buffer)

-- sealing loses none
pub sealed_keeps : {A : Type 0} (layout : Layout A) → live_items (sealed layout) ≡ live_items layout
unfolding sealed
sealed_keeps layout = settled_keeps layout.factor (with_buffer_last layout) ∙ with_last_keeps layout

-- ---- a change

abbrev dead : {A : Type 0} → A → Marked A
dead item = record { item = item; live = false }

one_marked : {A : Type 0} (goes : A → Bool) (item : A) (live : Bool) (rest xs : List (Marked A)) → map item_in rest ≡ filter (staying goes) (map item_in xs)
    → map item_in (cond (killed_if goes (record { item = item; live = live })).live (killed_if goes (record { item = item; live = live }) ∷ rest) rest)
    ≡ filter (staying goes) (map item_in (cond live (record { item = item; live = live } ∷ xs) xs))
one_marked goes item false rest xs e =
    elim (goes item) as (λ b. map item_in (cond (is_live (cond b (dead item) (dead item))) (cond b (dead item) (dead item) ∷ rest) rest) ≡ filter (staying goes) (map item_in xs)) [
      | true ↦ e
      | false ↦ e
    ]
one_marked goes item true rest xs e =
    elim (goes item) as (λ b. map item_in (cond (is_live (cond b (dead item) (alive item))) (cond b (dead item) (alive item) ∷ rest) rest)
    ≡ cond (not b) (item ∷ filter (staying goes) (map item_in xs)) (filter (staying goes) (map item_in xs))) [
      | true ↦ e
      | false ↦ ap (λ ys. item ∷ ys) e
    ]

live_marked : {A : Type 0} (goes : A → Bool) (xs : List (Marked A)) → map item_in (filter is_live (map (killed_if goes) xs)) ≡ filter (staying goes) (map item_in (filter is_live xs))
live_marked goes [] = refl
live_marked goes (x ∷ xs) = one_marked goes x.item x.live (filter is_live (map (killed_if goes) xs)) (filter is_live xs) (live_marked goes xs)

filter-append : {X : Type 0} (p : X → Bool) (xs ys : List X) → filter p (xs ++ ys) ≡ filter p xs ++ filter p ys
filter-append p [] ys = refl
filter-append p (x ∷ xs) ys = let more = filter-append p xs ys in
    elim (p x) as (λ b. cond b (x ∷ filter p (xs ++ ys)) (filter p (xs ++ ys)) ≡ cond b (x ∷ filter p xs) (filter p xs) ++ filter p ys) [
      | true ↦ ap (λ zs. x ∷ zs) more
      | false ↦ more
    ]

killed_each : {A : Type 0} (goes : A → Bool) (segments : List (SegmentOf A)) → flat_map live_in (map (killed_in goes) segments) ≡ filter (staying goes) (flat_map live_in segments)
killed_each goes [] = refl
killed_each goes (segment ∷ segments) =
    ap (λ xs. xs ++ flat_map live_in (map (killed_in goes) segments)) (live_marked goes segment.items)
    ∙ ap (λ xs. filter (staying goes) (live_in segment) ++ xs) (killed_each goes segments)
    ∙ sym (filter-append (staying goes) (live_in segment) (flat_map live_in segments))

killed_keeps : {A : Type 0} (goes : A → Bool) (layout : Layout A) → live_items (killed goes layout) ≡ filter (staying goes) (live_items layout)
killed_keeps goes layout =
    ap (λ xs. xs ++ filter (staying goes) layout.buffer) (killed_each goes layout.segments)
    ∙ sym (filter-append (staying goes) (flat_map live_in layout.segments) layout.buffer)

pub with_room_keeps : {A : Type 0} (layout : Layout A) → live_items (with_room layout) ≡ live_items layout
with_room_keeps layout = elim (nat_le buffer_size (length layout.buffer)) as (λ b. live_items (cond b (sealed layout) layout) ≡ live_items layout) [
  | true ↦ sealed_keeps layout
  | false ↦ refl
]

-- what goes is taken out, and what is new stands last
pub changed_keeps : {A : Type 0} (goes : A → Bool) (new : List A) (layout : Layout A) → live_items (with_new new (killed goes layout)) ≡ filter (staying goes) (live_items layout) ++ new
changed_keeps goes new layout = sym (append_assoc (flat_map live_in (killed goes layout).segments) (killed goes layout).buffer new) ∙ ap (λ xs. xs ++ new) (killed_keeps goes layout)

-- a change takes out what goes, and puts what is new last
pub change_keeps : {A : Type 0} (goes : A → Bool) (new : List A) (layout : Layout A) → live_items (with_change goes new layout) ≡ filter (staying goes) (live_items layout) ++ new
unfolding with_change
change_keeps goes new layout = changed_keeps goes new (with_room layout) ∙ ap (λ xs. filter (staying goes) xs ++ new) (with_room_keeps layout)
